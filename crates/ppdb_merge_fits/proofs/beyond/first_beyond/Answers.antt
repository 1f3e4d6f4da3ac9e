use Rattle.std.proofs.Common.{◌++◌, sym, ◌∙◌, flat_map}
use Rattle.ppdb_values.specs.Value.{value_of}
use Rattle.ppdb_verify.specs.Views.{raw_file}
use Rattle.ppdb_merge_fits.{specs.Offsets.{points_beyond, scope_beyond}, proofs.First.{first_back, first_prefix}}
use Rattle.ppdb_merge_fits.proofs.beyond.first_beyond.Goals as goal
use Rattle.ppdb_merge_fits.proofs.Parts.{custom_beyond}

pub returns-in-Some-first_range_beyond : goal.returns-in-Some-first_range_beyond
returns-in-Some-first_range_beyond g c =
    let m = c.args.map.now in
    let value = value_of (raw_file c.args.file.now) in
    let ranges = flat_map (scope_beyond m) value.scopes in
    let records = flat_map (custom_beyond m) value.customs in
    sym (first_back (flat_map (points_beyond m) value.methods) (ranges ++ records) (sym c.first_point_beyond.ensures ∙ c.in_default.is)
    ∙ first_prefix ranges records c.in-Some-first_range_beyond.error (sym c.first_range_beyond.ensures ∙ c.in-Some-first_range_beyond.is))

pub returns : goal.returns
returns g c =
    let m = c.args.map.now in
    let value = value_of (raw_file c.args.file.now) in
    let ranges = flat_map (scope_beyond m) value.scopes in
    let records = flat_map (custom_beyond m) value.customs in
    c.first_of_records.ensures
    ∙ sym (first_back (flat_map (points_beyond m) value.methods) (ranges ++ records) (sym c.first_point_beyond.ensures ∙ c.in_default.is)
    ∙ first_back ranges records (sym c.first_range_beyond.ensures ∙ c.in_default-first_range_beyond.is))
