use Rattle.std.proofs.Common.{◌≡◌, ◌++◌, take, map}
use Rattle.ppdb_merge_fits.proofs.kinds.put_for_each.Given as goal

abbrev pub invariant-loop : goal.invariant-loop
invariant-loop g l = l.methods ≡ l.fn.methods ++ map (λ item. l.method) (take l.index l.items)
