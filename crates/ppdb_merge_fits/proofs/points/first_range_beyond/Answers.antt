use Rattle.std.proofs.Common.{sym, ◌∙◌, ◌+◌, arith}
use Rattle.ppdb_values.specs.Value.{scope_of, value_of}
use Rattle.ppdb_verify.specs.Views.{raw_file}
use Rattle.ppdb_merge_fits.{specs.Offsets.{scope_beyond}, proofs.First.{none_left}, proofs.CustomRows.{scope_there, scopes_many}, proofs.Rows.{item_there, row_hit}}
use Rattle.ppdb_merge_fits.proofs.Rows.{row_miss}
use Rattle.ppdb_merge_fits.proofs.points.first_range_beyond.Goals as goal

pub returns-in-Some : goal.returns-in-Some
returns-in-Some g c =
    let raw = raw_file c.args.file.now in
    let x = item_there raw.tables.scopes c.rows.row (omega (arith, c.facts.ensures.rules.shape.scopes)) in
    sym (row_hit (scope_beyond c.args.map.now) (value_of raw).scopes c.rows.row (scope_of raw.tables (c.rows.row + 1, x.0)) c.in-Some.error c.rows.invariant
    (scope_there raw (c.rows.row + 1) x.0 x.1) (sym (c.range_beyond.ensures x.0 x.1) ∙ c.in-Some.is))

pub rows-preserved : goal.rows-preserved
rows-preserved g c =
    let raw = raw_file c.args.file.now in
    let x = item_there raw.tables.scopes c.rows.row (omega (arith, c.facts.ensures.rules.shape.scopes)) in
    row_miss (scope_beyond c.args.map.now) (value_of raw).scopes c.rows.row (scope_of raw.tables (c.rows.row + 1, x.0)) c.rows.invariant
    (scope_there raw (c.rows.row + 1) x.0 x.1) (sym (c.range_beyond.ensures x.0 x.1) ∙ c.in_default.is)

pub returns : goal.returns
returns g c =
    let raw = raw_file c.args.file.now in
    sym (none_left (scope_beyond c.args.map.now) (value_of raw).scopes c.rows.row c.rows.invariant
    (omega (arith, scopes_many raw, c.facts.ensures.rules.shape.scopes)))
