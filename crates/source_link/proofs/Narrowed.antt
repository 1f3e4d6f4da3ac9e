-- What a search keeps: the part of the pairs that begins with what was read of the name, and the best of the patterns that have ended before.
use Rattle.std.{proofs.Common.{◌≡◌, ℕ, ◌<◌, List, length, take, true, Bor}, specs.Prelude.{Contains, Option, MatchOption}, specs.Ordering.{is_le}}
use Rattle.source_link.specs.{declared.pair.Pair.{Pair}, Address.{matches, key_cmp}, Pairs.{fixed_part}, Search.{AreInOrder, BeginsWith}}

-- the pair matches and its fixed part is shorter
pub record Ended (name : List ℕ) (at : ℕ) (pairs : List Pair) (pair : Pair) : Type 0 where
  pub there : Contains pairs pair
  pub matching : matches name pair ≡ true
  pub shorter : length (fixed_part pair.key) < at

pub record Narrowed (pairs : List Pair) (name : List ℕ) (at : ℕ) (part : List Pair) (found : Option (Bor Pair)) : Type 0 where
  pub order : AreInOrder part
  pub those : (pair : Pair) → Contains part pair → Contains pairs pair × BeginsWith (take at name) pair
  pub all : (pair : Pair) → Contains pairs pair → BeginsWith (take at name) pair → Contains part pair
  pub ended : MatchOption found ((pair : Pair) → Ended name at pairs pair → ⊥)
      (λ best. Ended name at pairs best.now × ((pair : Pair) → Ended name at pairs pair → is_le (key_cmp best.now.key pair.key) ≡ true))
