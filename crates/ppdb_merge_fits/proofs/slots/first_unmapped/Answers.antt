use Rattle.std.proofs.Common.{sym, ◌∙◌, arith}
use Rattle.ppdb_merge_fits.{specs.Slots.{if_slot_unmapped}, proofs.First.{hit_row, miss_row, none_of_rows, there}}
use Rattle.ppdb_merge_fits.proofs.slots.first_unmapped.Goals as goal

pub returns-in-Some : goal.returns-in-Some
returns-in-Some c =
    sym (hit_row (if_slot_unmapped c.args.map.now) c.args.slots.now c.loop-x.x-index c.loop-x.row _ c.in-Some.error c.loop-x.invariant.0
    c.loop-x.invariant.1 c.loop-x-test.true (there c.args.slots.now c.loop-x.x-index _ _ c.loop-x-test.true) (sym c.slot_unmapped.ensures ∙ c.in-Some.is))

pub loop-x-preserved : goal.loop-x-preserved
loop-x-preserved c = (
  omega (arith, c.loop-x.invariant.0),
  miss_row (if_slot_unmapped c.args.map.now) c.args.slots.now c.loop-x.x-index c.loop-x.row _ c.loop-x.invariant.0
      c.loop-x.invariant.1 c.loop-x-test.true (there c.args.slots.now c.loop-x.x-index _ _ c.loop-x-test.true) (sym c.slot_unmapped.ensures ∙ c.in_default.is),
)

pub returns : goal.returns
returns c = sym (none_of_rows (if_slot_unmapped c.args.map.now) c.args.slots.now c.loop-x.x-index c.loop-x.invariant.1 c.loop-x-test.false)
