use Rattle.std.proofs.Common.{◌+◌, ◌-◌, ◌<◌, arith}
use Rattle.ppdb_maps.proofs.Lines.{line_rises, image_fits, stops_in_run, stops_at_end, stops_not, stops_no_more}
use Rattle.ppdb_maps.proofs.runs.image_in.Goals as goal

pub first_after-requires : goal.first_after-requires
first_after-requires c = line_rises _ _ _ c.requires

pub overflow_add-result : goal.overflow_add-result
overflow_add-result c =
    let fits : c.in-Some.run'.new + (c.args.offset - c.in-Some.run'.old) < c.args.new_size = image_fits _ _ _ c.args.offset _ c.requires c.in-Some.ensures in
    omega arith

pub returns-in-Some-clause-some : goal.returns-in-Some-clause-some
returns-in-Some-clause-some c = stops_in_run _ _ _ _ _ c.in-Some.ensures c.if-run-offset.true

pub returns-in-None-clause-some : goal.returns-in-None-clause-some
returns-in-None-clause-some c = stops_at_end _ _ _ _ c.if-offset-old_size.true

pub returns-in_default-clause-none : goal.returns-in_default-clause-none
returns-in_default-clause-none c = stops_not _ _ _ _ _ c.requires c.in-Some.ensures c.if-run-offset.false

pub returns-in_default-2-clause-none : goal.returns-in_default-2-clause-none
returns-in_default-2-clause-none c = stops_no_more _ _ _ _ c.in-None.ensures c.if-offset-old_size.false
