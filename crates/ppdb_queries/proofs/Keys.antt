-- Keys of rows.
use Rattle.std.{proofs.Common.{◌≡◌, ℕ, zero, suc, ◌-◌, List, map, arith, slice_index}, specs.Prelude.{Some}}
use Rattle.ppdb_tables.specs.RawTables.{row_at}
use Rattle.ppdb_values.proofs.Lists.{index_map}

-- the key of a row that is there
pub key_at : {X : Type 0} (f : X → ℕ) (xs : List X) (row : ℕ) (x : X) → row_at xs row ≡ Some x → slice_index (map f xs) (row - 1) ≡ f x
key_at f xs zero x e = cc
key_at f xs (suc i) x e = let k : suc i - 1 ≡ i = omega arith in rw k (index_map f xs i x e)
