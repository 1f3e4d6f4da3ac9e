use Rattle.std.proofs.Common.{sym, ◌∙◌}
use Rattle.map_compose.proofs.Crossing.{leaving, none_both_leave}
use Rattle.map_compose.proofs.leaving.leaves_by_both.Goals as goal

pub returns-then-may : goal.returns-then-may
returns-then-may c = c.tables_leave.ensures ∙ sym (leaving c.args.first.now c.args.second.now)

pub returns-else-may : goal.returns-else-may
returns-else-may c = sym (leaving c.args.first.now c.args.second.now ∙ none_both_leave c.args.first.now c.args.second.now
    (sym c.have_leaving-may.ensures ∙ c.if-may.false))
