-- What cursors give, one item after the other.
use Rattle.std.{proofs.Common.{◌≡◌, List, [], ◌∷◌, refl, sym, ap, ◌∙◌}, specs.Prelude.{Option, Some, None, Ok, Err}}
use Rattle.ppdb_base.specs.declared.BlobFault.{BlobFault}
use Rattle.blob_grammar.specs.Reader.{Left, answer, answer_from, tail}
use Rattle.sequence_points.specs.Written.{first_of}

-- this holds of each item
abbrev pub Each : {X : Type 0} → (X → Type 0) → List X → Type 0
Each P [] = Unit {0}
Each P (x ∷ xs) = P x × Each P xs

pub each_first : {X : Type 0} (P : X → Type 0) (items rest : List X) (x : X) → items ≡ x ∷ rest → Each P items → P x
each_first P items rest x e h = let k : Each P (x ∷ rest) = rw e at h in k.0

pub each_rest : {X : Type 0} (P : X → Type 0) (items rest : List X) (x : X) → items ≡ x ∷ rest → Each P items → Each P rest
each_rest P items rest x e h = let k : Each P (x ∷ rest) = rw e at h in k.1

next_first : {X : Type 0} (items rest : List X) (x : X) → first_of items ≡ Some x → rest ≡ tail items → items ≡ x ∷ rest
next_first [] rest x e t = cc
next_first {X} (y ∷ ys) rest x e t = let same : y ≡ x = cc in ap (λ (z : X). z ∷ ys) same ∙ ap (λ (zs : List X). x ∷ zs) (sym t)

-- the item that was given is the first
pub given_next : {X : Type 0} (items rest : List X) (x : X) (next : Option X) → next ≡ first_of items → next ≡ Some x → rest ≡ tail items → items ≡ x ∷ rest
given_next items rest x next e is t = next_first items rest x (sym e ∙ is) t

answer_first : {X : Type 0} (items rest : List X) (fault : Option BlobFault) (x : X) → answer_from items fault ≡ Ok (Some x) → rest ≡ tail items
    → items ≡ x ∷ rest
answer_first [] rest None x e t = cc
answer_first [] rest (Some f) x e t = cc
answer_first {X} (y ∷ ys) rest fault x e t = let same : y ≡ x = cc in ap (λ (z : X). z ∷ ys) same ∙ ap (λ (zs : List X). x ∷ zs) (sym t)

-- the same of a cursor over a blob: an item, the end, and no fault where the blob is whole
pub answer_next : {X : Type 0} (left : Left X) (rest : List X) (x : X) → Ok (Some x) ≡ answer left → rest ≡ tail left.items → left.items ≡ x ∷ rest
answer_next left rest x e t = answer_first left.items rest left.fault x (sym e) t

pub answer_end : {X : Type 0} (items : List X) (fault : Option BlobFault) → Ok None ≡ answer_from items fault → items ≡ []
answer_end [] fault e = refl
answer_end (x ∷ xs) fault e = cc

pub answer_never : {X : Type 0} (items : List X) (fault : Option BlobFault) (f : BlobFault) → fault ≡ None → Err f ≡ answer_from items fault → ⊥
answer_never [] None f whole e = cc
answer_never [] (Some g) f whole e = cc
answer_never (x ∷ xs) fault f whole e = cc
