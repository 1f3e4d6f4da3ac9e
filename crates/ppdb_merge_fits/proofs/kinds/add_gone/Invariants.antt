use Rattle.std.proofs.Common.{◌≡◌, ◌++◌, take, map}
use Rattle.ppdb_merge_items.specs.NamedRows.{goes_constant}
use Rattle.ppdb_merge_fits.proofs.kinds.add_gone.Given as goal

abbrev pub invariant-loop-constant : goal.invariant-loop-constant
invariant-loop-constant l = l.gone ≡ l.fn.gone ++ map (goes_constant l.by) (take l.constant-index l.constants)
