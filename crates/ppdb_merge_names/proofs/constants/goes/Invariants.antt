use Rattle.std.{proofs.Common.{◌≡◌, length}, specs.List.{list_any}}
use Rattle.ppdb_merge_names.specs.References.{takes_constant}
use Rattle.ppdb_merge_names.proofs.constants.goes.Given as goal

abbrev pub invariant-types : goal.invariant-types
invariant-types g l =
    let m = l.fn.imager.map in
    record {
      same : l.imager ≡ l.fn.imager;
      left : list_any (takes_constant m) (g.W.RowWalk.left l.fn.types) ≡ list_any (takes_constant m) (g.W.RowWalk.left l.types);
    }

abbrev pub decreases-types : goal.decreases-types
decreases-types g l = length (g.W.RowWalk.left l.types)
