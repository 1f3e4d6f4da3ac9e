-- Sets of lent texts: a key is known by its bytes, and any bytes stand after some reference.
use Rattle.std.{proofs.Common.{◌≡◌, ℕ, ◌⊎◌, List, [], ◌∷◌, ◌++◌, ◌||◌, refl, sym, ◌∙◌, inl, inr, Bool, true, false, cond, IsTrue}, specs.Ordering.{nat_cmp, is_eq}}
use Rattle.std.specs.{Cmp.Lexicographic.{slice_cmp}, BTreeSet.{BTreeSet, contains, Updates}, Borrow.{Bor}, List.{list_any}, Str.{bytes_eq}}
use Rattle.std.proofs.lemmas.{Map.Text.{is_eq-slice_cmp}, Slice.Eq.{bytes_eq-Decides}, List.Folds.{list_any-append}}

-- equal bytes compare as equal, and no others do
pub same_bytes : (xs ys : List ℕ) → is_eq (slice_cmp nat_cmp xs ys) ≡ true → xs ≡ ys
same_bytes xs ys e =
    let bytes : bytes_eq xs ys ≡ true = sym (is_eq-slice_cmp xs ys) ∙ e in
    (bytes_eq-Decides xs ys).0 bytes

pub both : (b : Bool) → cond b true true ≡ true
both true = refl
both false = refl

-- the set has the text
abbrev pub InSet : BTreeSet (Bor (List ℕ)) → List ℕ → Type 0
InSet set text = IsTrue (list_any (λ (k : Bor (List ℕ)). is_eq (slice_cmp nat_cmp text k.now)) set.keys)

module _ (s n : BTreeSet (Bor (List ℕ))) (key : Bor (List ℕ)) (t : List ℕ)
    (updates : Updates (λ (a : Bor (List ℕ)) (b : Bor (List ℕ)). slice_cmp nat_cmp a.now b.now) s n key true) where
  pub kept_text : InSet s t → InSet n t
  kept_text has = updates.0 (record key { now = t }) ∙ (rw has (both (is_eq (slice_cmp nat_cmp key.now t))))

  pub only_text : InSet n t → InSet s t ⊎ (t ≡ key.now)
  only_text has = split (is_eq (slice_cmp nat_cmp key.now t)) refl (sym (updates.0 (record key { now = t })) ∙ has)
    where
      split : (b : Bool) → is_eq (slice_cmp nat_cmp key.now t) ≡ b
          → cond b true (contains (λ (a : Bor (List ℕ)) (b : Bor (List ℕ)). slice_cmp nat_cmp a.now b.now) s (record key { now = t })) ≡ true
          → InSet s t ⊎ (t ≡ key.now)
      split true e _ = inr (sym (same_bytes key.now t e))
      split false e h = inl h

-- a list with a text more at its end
module _ (few : List (Bor (List ℕ))) (key : Bor (List ℕ)) where
  abbrev Equals : List ℕ → Bor (List ℕ) → Bool
  Equals t k = bytes_eq k.now t

  or_right : (b : Bool) → (b || true) ≡ true
  or_right true = refl
  or_right false = refl

  pub pushed_text : list_any (Equals key.now) (few ++ key ∷ []) ≡ true
  pushed_text =
      let self : bytes_eq key.now key.now ≡ true = (bytes_eq-Decides key.now key.now).1 refl in
      let last : list_any (Equals key.now) (key ∷ []) ≡ true = rw self refl in
      list_any-append (Equals key.now) few (key ∷ []) ∙ rw last (or_right (list_any (Equals key.now) few))

  pub only_pushed : (t : List ℕ) → list_any (Equals t) (few ++ key ∷ []) ≡ true → (list_any (Equals t) few ≡ true) ⊎ (t ≡ key.now)
  only_pushed t has = split (list_any (Equals t) few) refl (bytes_eq key.now t) refl (sym (list_any-append (Equals t) few (key ∷ [])) ∙ has)
    where
      split : (a : Bool) → list_any (Equals t) few ≡ a → (b : Bool) → bytes_eq key.now t ≡ b → (a || list_any (Equals t) (key ∷ [])) ≡ true
          → (list_any (Equals t) few ≡ true) ⊎ (t ≡ key.now)
      split true e b f _ = inl e
      split false e true f _ = inr (sym ((bytes_eq-Decides key.now t).0 f))
      split false e false f h = absurd (let none : list_any (Equals t) (key ∷ []) ≡ false = rw f refl in cc)
