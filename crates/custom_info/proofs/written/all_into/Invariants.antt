use Rattle.std.{proofs.Common.{◌≡◌, ◌++◌, take}, specs.List.{flat_map}}
use Rattle.custom_info.proofs.written.all_into.Given as goal

abbrev pub invariant-loop-item : goal.invariant-loop-item
invariant-loop-item g l = l.into ≡ l.fn.into ++ flat_map g.T.Written.spelling (take l.item-index l.items)
