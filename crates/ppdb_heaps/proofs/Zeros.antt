-- After the last zero of #Strings stands no text.
use Rattle.std.proofs.Common.{◌≡◌, ◌≢◌, ℕ, zero, suc, ◌+◌, ◌-◌, ◌≤◌, ◌==◌, ◌||◌, Bool, true, false, not, List, [], ◌∷◌, length, drop, None, refl, ap, subst, ◌∙◌}
use Rattle.std.{proofs.Common.{arith}, specs.List.{list_any, prefix_len, position}, proofs.lemmas.List.{drop_all, drop-drop}}
use Rattle.ppdb_heaps.specs.Heaps.{text_at}

abbrev pub HasZero : List ℕ → Bool
HasZero bytes = list_any (λ b. b == 0) bytes

-- a list without a zero has no first one
whole_prefix : (bytes : List ℕ) → HasZero bytes ≡ false → prefix_len (λ b. not (b == 0)) bytes ≡ length bytes
whole_prefix [] none = refl
whole_prefix (b ∷ bytes) none = split (b == 0) refl none (whole_prefix bytes)
  where
    split : (z : Bool) → (b == 0) ≡ z → (z || HasZero bytes) ≡ false → (HasZero bytes ≡ false → prefix_len (λ b. not (b == 0)) bytes ≡ length bytes)
        → prefix_len (λ b. not (b == 0)) (b ∷ bytes) ≡ suc (length bytes)
    split true e h rest = absurd (let w : true ≡ false = h in cc)
    split false e h rest = rw e (omega (arith, rest h))

no_first : (bytes : List ℕ) → HasZero bytes ≡ false → position (λ b. b == 0) bytes ≡ None
no_first bytes none = rw (whole_prefix bytes none) (grind arith)

-- nor has what is left of it
later : (n : ℕ) (bytes : List ℕ) → HasZero bytes ≡ false → HasZero (drop n bytes) ≡ false
later zero bytes none = none
later (suc n) [] none = refl
later (suc n) (b ∷ bytes) none = later n bytes (rest (b == 0) none)
  where
    rest : (z : Bool) → (z || HasZero bytes) ≡ false → HasZero bytes ≡ false
    rest true h = absurd (let w : true ≡ false = h in cc)
    rest false h = h

-- after the whole list
pub none_behind : (bytes : List ℕ) → HasZero (drop (length bytes) bytes) ≡ false
none_behind bytes = rw (drop_all (length bytes) bytes (omega arith)) refl

-- no text stands there
pub no_text : (bytes : List ℕ) (end at : ℕ) → HasZero (drop end bytes) ≡ false → end ≤ at → at ≢ 0 → text_at bytes at ≡ None
unfolding text_at
no_text bytes end zero none past some = absurd (some refl)
no_text bytes end (suc i) none past some =
    let e : end + (suc i - end) ≡ suc i = omega (arith, past) in
    let behind : drop (suc i - end) (drop end bytes) ≡ drop (suc i) bytes = drop-drop (suc i - end) end bytes ∙ ap (λ n. drop n bytes) e in
    let gone : position (λ b. b == 0) (drop (suc i) bytes) ≡ None =
    no_first (drop (suc i) bytes) (subst (λ xs. HasZero xs ≡ false) behind (later (suc i - end) (drop end bytes) none)) in
    rw gone refl
