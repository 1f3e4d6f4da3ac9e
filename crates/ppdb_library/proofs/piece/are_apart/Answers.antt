use Rattle.ppdb_library.proofs.Pieces.{not_apart}
use Rattle.ppdb_library.proofs.piece.are_apart.Goals as goal

pub returns-in_default : goal.returns-in_default
returns-in_default c = (
  λ h. absurd cc,
  λ h. absurd (not_apart c.loop-piece.from c.args.total c.args.pieces.now c.loop-piece.piece-index c.loop-piece-test.true
      c.in_default.ensures (c.loop-piece.invariant.rest.0 h)),
)
