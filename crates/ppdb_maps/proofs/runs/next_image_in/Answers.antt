use Rattle.std.proofs.Common.{◌+◌, ◌-◌, ◌<◌, arith}
use Rattle.ppdb_maps.proofs.Lines.{line_rises, image_fits, next_at_run, next_at_end, none_next}
use Rattle.ppdb_maps.proofs.runs.next_image_in.Goals as goal

pub first_after-requires : goal.first_after-requires
first_after-requires c = line_rises _ _ _ c.requires

pub overflow_add-result : goal.overflow_add-result
overflow_add-result c = rw c.saturating_sub.ensures (
    let fits : c.in-Some.run'.new + (c.args.offset - c.in-Some.run'.old) < c.args.new_size = image_fits _ _ _ c.args.offset _ c.requires c.in-Some.ensures in
    omega arith)

pub returns-in-Some-clause-some : goal.returns-in-Some-clause-some
returns-in-Some-clause-some c = rw c.saturating_sub.ensures (next_at_run _ _ _ c.args.offset _ c.requires c.in-Some.ensures)

pub returns-in-None-clause-some : goal.returns-in-None-clause-some
returns-in-None-clause-some c = next_at_end _ _ _ _ c.in-None.ensures c.if-offset-old_size.true

pub returns-in-None-2-clause-none : goal.returns-in-None-2-clause-none
returns-in-None-2-clause-none c = none_next _ _ _ _ c.in-None.ensures c.if-offset-old_size.false
