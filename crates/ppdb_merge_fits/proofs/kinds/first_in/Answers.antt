use Rattle.std.proofs.Common.{sym, ◌∙◌, arith}
use Rattle.ppdb_merge_fits.{specs.Clashes.{if_unknown}, proofs.First.{hit_row, miss_row, none_of_rows}}
use Rattle.ppdb_merge_fits.proofs.kinds.first_in.Goals as goal

pub returns-in-Some : goal.returns-in-Some
returns-in-Some c =
    sym (hit_row (if_unknown c.args.marks.now c.args.rows.now.0 c.args.rows.now.1) c.args.customs.now c.loop-custom.custom-index c.loop-custom.row
    c.custom-item.result c.in-Some.error c.loop-custom.invariant.0
    c.loop-custom.invariant.1 c.loop-custom-test.true c.custom-item.is (sym c.kind_unknown.ensures ∙ c.in-Some.is))

pub loop-custom-preserved : goal.loop-custom-preserved
loop-custom-preserved c = (
  omega (arith, c.loop-custom.invariant.0),
  miss_row (if_unknown c.args.marks.now c.args.rows.now.0 c.args.rows.now.1) c.args.customs.now c.loop-custom.custom-index c.loop-custom.row c.custom-item.result
      c.loop-custom.invariant.0
      c.loop-custom.invariant.1 c.loop-custom-test.true c.custom-item.is (sym c.kind_unknown.ensures ∙ c.in_default.is),
)

pub returns : goal.returns
returns c = sym (none_of_rows (if_unknown c.args.marks.now c.args.rows.now.0 c.args.rows.now.1) c.args.customs.now c.loop-custom.custom-index
    c.loop-custom.invariant.1 c.loop-custom-test.false)
