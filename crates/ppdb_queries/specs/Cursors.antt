-- Cursors over a list: what they have left.
use Rattle.std.specs.Prelude.{ℕ, List}

-- what a cursor has left: the items to give, and how many rows it has not yet passed
pub record Walk (X : Type 0) : Type 0 where
  pub items : List X
  pub rows : ℕ
