-- What the lines of a text say is one thing.
use Rattle.std.proofs.Common.{◌≡◌, ℕ, ◌++◌, List, [], ◌∷◌, refl, sym, ap, ◌∙◌, subst}
use Rattle.ppdb_maps.{specs.Forms.{Tells}, specs.Text.{Read, start, further}, specs.declared.line.Line.{Line}, proofs.Saying.{one_said}}

snoc_apart : {A : Type 0} (xs : List A) (x : A) → xs ++ x ∷ [] ≡ [] → ⊥
snoc_apart [] x e = absurd (cc)
snoc_apart (y ∷ ys) x e = absurd (cc)

pub snoc_same : {A : Type 0} (xs ys : List A) (x y : A) → xs ++ x ∷ [] ≡ ys ++ y ∷ [] → (xs ≡ ys) × (x ≡ y)
snoc_same [] [] x y e = (refl, cc)
snoc_same [] (z ∷ zs) x y e = let t : [] ≡ zs ++ y ∷ [] = cc in absurd (snoc_apart zs y (sym t))
snoc_same (z ∷ zs) [] x y e = let t : zs ++ x ∷ [] ≡ [] = cc in absurd (snoc_apart zs x t)
snoc_same (z ∷ zs) (w ∷ ws) x y e =
    let first : z ≡ w = cc in
    let more : zs ++ x ∷ [] ≡ ws ++ y ∷ [] = cc in
    let rest = snoc_same zs ws x y more in
    (ap (λ a. a ∷ zs) first ∙ ap (λ l. w ∷ l) rest.0, rest.1)

pub read_same : (version : ℕ) (texts others : List (List ℕ)) (said more : List Line) → texts ≡ others → Read version texts said → Read version others more
    → said ≡ more
read_same version texts others said more same start start = refl
read_same version texts others said more same start (further {texts = prefix} {text = line} r t k) = absurd (snoc_apart prefix line (sym same))
read_same version texts others said more same (further {texts = prefix} {text = line} r t k) start = absurd (snoc_apart prefix line same)
read_same version texts others said more same (further {texts = prefix} {before} {text} {line = one} r t k)
    (further {texts = prefix2} {before = before2} {text = text2} {line = two} r2 t2 k2) =
    let parts = snoc_same prefix prefix2 text text2 same in
    let lines : one ≡ two = one_said version text2 one two (subst (λ x. Tells version x one) parts.1 t) t2 in
    let rest : before ≡ before2 = read_same version prefix prefix2 before before2 parts.0 r r2 in
    ap (λ l. l ∷ before) lines ∙ ap (λ b. two ∷ b) rest
