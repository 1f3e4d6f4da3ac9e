use Rattle.std.{proofs.Common.{arith, ap}, specs.List.{filter_map}}
use Rattle.map_compose.{specs.Runs.{meet}, proofs.Prefixes.{stops_here, one_more, short_at}, proofs.JoinedRuns.{joins_none, joins_then, joins_same}}
use Rattle.map_compose.proofs.Putting.{take_over}
use Rattle.map_compose.proofs.runs.put_prefix.Goals as goal

pub others-init : goal.others-init
others-init c = joins_none c.args.held.now c.args.text.now

pub put_meeting-requires : goal.put_meeting-requires
put_meeting-requires c = record { run = c.requires.run; other = short_at c.args.others.now c.others.other-index _ c.requires.others.short (omega arith) }

pub others-preserved : goal.others-preserved
others-preserved c = joins_same _ _ _ _ _ _ (one_more c.args.run c.args.others.now c.others.other-index _ (omega arith))
    (joins_then _ _ _ _ _ _ _ _ c.others.invariant c.in_ok-put_meeting.ensures)

pub returns-after-others : goal.returns-after-others
returns-after-others c = joins_same _ _ _ _ _ _ (ap (filter_map (meet c.args.run))
    (take_over c.args.others.now c.others.other-index (omega arith))) c.others.invariant

pub returns-then-other-end : goal.returns-then-other-end
returns-then-other-end c = joins_same _ _ _ _ _ _
    (stops_here c.args.run c.args.others.now c.others.other-index _ c.requires.others.rise (omega arith) c.if-other-end.true) c.others.invariant
