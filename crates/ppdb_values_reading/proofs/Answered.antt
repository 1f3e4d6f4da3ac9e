-- What the answers of cursors say of the items that are left.
use Rattle.std.{proofs.Common.{◌≡◌, suc, List, [], ◌∷◌, refl, ap, arith, All}, specs.Prelude.{slice_get, Some, None}}
use Rattle.blob_grammar.specs.Reader.{tail}

-- ---- cursors over lists

pub next_first : {X : Type 0} (items : List X) (x : X) → slice_get items 0 ≡ Some x → items ≡ x ∷ tail items
next_first [] x e = cc
next_first {X} (y ∷ ys) x e = let same : y ≡ x = cc in ap (λ (z : X). z ∷ ys) same

pub next_none : {X : Type 0} (items : List X) → slice_get items 0 ≡ None → items ≡ []
next_none [] e = refl
next_none (x ∷ xs) e = cc

pub all_first : {X : Type 0} (P : X → Type 0) (items rest : List X) (x : X) → items ≡ x ∷ rest → All P items → P x
all_first P items rest x e h = let k : All P (x ∷ rest) = rw e at h in k 0 x (omega arith)

pub all_rest : {X : Type 0} (P : X → Type 0) (items rest : List X) (x : X) → items ≡ x ∷ rest → All P items → All P rest
all_rest P items rest x e h = let k : All P (x ∷ rest) = rw e at h in λ i d lt. k (suc i) d (omega (arith, lt))
