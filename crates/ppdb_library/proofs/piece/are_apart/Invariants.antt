use Rattle.std.proofs.Common.{◌≤◌, ◌↔◌, drop}
use Rattle.ppdb_library.specs.Pieces.{AreApart}
use Rattle.ppdb_library.proofs.piece.are_apart.Given as goal

abbrev pub invariant-loop-piece : goal.invariant-loop-piece
invariant-loop-piece l = record {
  within : l.from ≤ l.total;
  rest : AreApart 0 l.pieces l.total ↔ AreApart l.from (drop l.piece-index l.pieces) l.total;
}
