use Rattle.std.{proofs.Common.{take}, specs.List.{filter_map}}
use Rattle.map_compose.specs.{Runs.{meet}, Joining.{Joins}}
use Rattle.map_compose.proofs.runs.put_prefix.Given as goal

abbrev pub invariant-others : goal.invariant-others
invariant-others l = Joins l.fn.held l.held l.fn.text l.text (filter_map (meet l.run) (take l.other-index l.others))
