use Rattle.std.proofs.Common.{sym, ◌∙◌, ◌+◌, ap, arith}
use Rattle.custom_info.specs.Kinds.{kind_of}
use Rattle.ppdb_values.specs.{Customs.{custom_of}, Value.{value_of}, declared.custom.CustomValue.{CustomValue}}
use Rattle.ppdb_verify.specs.Views.{raw_file}
use Rattle.ppdb_merge_fits.{specs.Clashes.{is_unknown}, proofs.First.{any_none}, proofs.CustomRows.{custom_there, customs_many}, proofs.Rows.{any_row, not_row}}
use Rattle.ppdb_merge_fits.proofs.kinds.any_unknown.Goals as goal

pub returns-then-is_unknown : goal.returns-then-is_unknown
returns-then-is_unknown g c =
    let raw = raw_file c.args.file.now in
    let kind = c.kind_of.ensures ∙ ap (kind_of c.args.marks.now) c.guid_of_kind.ensures in
    sym (any_row (λ (x : CustomValue). is_unknown (kind_of c.args.marks.now x.kind)) (value_of raw).customs c.rows.row (custom_of raw.tables c.custom-cells.result)
    (custom_there raw (c.rows.row + 1) c.custom-cells.result c.custom-cells.ensures.row)
    (ap is_unknown (sym kind) ∙ sym c.is_unknown.ensures ∙ c.if-is_unknown.true))

pub rows-preserved : goal.rows-preserved
rows-preserved g c =
    let raw = raw_file c.args.file.now in
    let kind = c.kind_of.ensures ∙ ap (kind_of c.args.marks.now) c.guid_of_kind.ensures in
    not_row (λ (x : CustomValue). is_unknown (kind_of c.args.marks.now x.kind)) (value_of raw).customs c.rows.row (custom_of raw.tables c.custom-cells.result)
    c.rows.invariant (custom_there raw (c.rows.row + 1) c.custom-cells.result c.custom-cells.ensures.row)
    (ap is_unknown (sym kind) ∙ sym c.is_unknown.ensures ∙ c.if-is_unknown.false)

pub returns : goal.returns
returns g c =
    let raw = raw_file c.args.file.now in
    sym (any_none (λ (x : CustomValue). is_unknown (kind_of c.args.marks.now x.kind)) (value_of raw).customs c.rows.row c.rows.invariant
    (omega (arith, customs_many raw, c.facts.ensures.rules.shape.customs)))
