use Rattle.std.proofs.Common.{sym, ◌∙◌}
use Rattle.ppdb_values.specs.Customs.{custom_of}
use Rattle.ppdb_verify.specs.Views.{raw_file}
use Rattle.ppdb_values_reading.proofs.Rows.{row_made}
use Rattle.ppdb_values_reading.proofs.customs.read_custom.Goals as goal

pub returns-clause-custom : goal.returns-clause-custom
returns-clause-custom g c =
    let raw = (raw_file c.args.file.now).tables in
    let there = row_made (custom_of raw) raw.customs c.args.row c.custom-cells.result c.custom-cells.ensures.row in
    rw (c.guid_of_kind.ensures, c.body_of.ensures.body) (rw (sym c.parent_of.ensures ∙ c.in-Some.is) at there)
