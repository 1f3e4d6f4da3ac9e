use Rattle.std.{proofs.Common.{◌≡◌, drop}, specs.FinMap.{get}}
use Rattle.ppdb_library.specs.Pieces.{files_in}
use Rattle.ppdb_library.proofs.piece.find_file.Given as goal

abbrev pub invariant-loop-piece : goal.invariant-loop-piece
invariant-loop-piece l = get (files_in l.files l.pieces) l.name ≡ get (files_in l.files (drop l.piece-index l.pieces)) l.name
