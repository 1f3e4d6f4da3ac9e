-- What a map that leads from keys to the first items of them leads to, when an item is put after the others.
use Rattle.std.{proofs.Common.{◌≡◌, Bool, true, false, cond, List, [], ◌∷◌, ◌++◌, Option, Some, None, refl, sym, ◌∙◌, ap, subst}, specs.Prelude.{find, is_some}}
use Rattle.std.specs.Option.{option_map}

pub find_kept : {A : Type 0} (p : A → Bool) (xs ys : List A) → is_some (find p xs) ≡ true → find p (xs ++ ys) ≡ find p xs
find_kept p [] ys is = absurd cc
find_kept {A} p (x ∷ xs) ys is = step (p x) is (find_kept p xs ys)
  where
    step : (b : Bool) → is_some (cond b (Some x) (find p xs)) ≡ true → (is_some (find p xs) ≡ true → find p (xs ++ ys) ≡ find p xs)
        → cond b (Some x) (find p (xs ++ ys)) ≡ cond b (Some x) (find p xs)
    step true is rest = refl
    step false is rest = rest is

pub find_next : {A : Type 0} (p : A → Bool) (xs ys : List A) → is_some (find p xs) ≡ false → find p (xs ++ ys) ≡ find p ys
find_next p [] ys is = refl
find_next {A} p (x ∷ xs) ys is = step (p x) is (find_next p xs ys)
  where
    step : (b : Bool) → is_some (cond b (Some x) (find p xs)) ≡ false → (is_some (find p xs) ≡ false → find p (xs ++ ys) ≡ find p ys)
        → cond b (Some x) (find p (xs ++ ys)) ≡ find p ys
    step true is rest = absurd cc
    step false is rest = rest is

-- an item that does not pass changes nothing
pub find_past : {A : Type 0} (p : A → Bool) (xs : List A) (y : A) → p y ≡ false → find p (xs ++ y ∷ []) ≡ find p xs
find_past p [] y is = ap (λ b. cond b (Some y) None) is
find_past p (x ∷ xs) y is = ap (cond (p x) (Some x)) (find_past p xs y is)

pub some_mapped : {A B : Type 0} (f : A → B) (o : Option A) → is_some (option_map f o) ≡ is_some o
some_mapped f None = refl
some_mapped f (Some x) = refl

module _ {K V C : Type 0} (same : K → K → Bool) (same_is : (a b : K) → same a b ≡ true → a ≡ b) (key : C → K) (seen : C → V) where
  -- where the new item's key leads to another, all stays
  pub present : (g : K → Option V) (xs : List C) (c : C) → ((k : K) → g k ≡ option_map seen (find (λ x. same (key x) k) xs))
      → is_some (g (key c)) ≡ true → (k : K) → g k ≡ option_map seen (find (λ x. same (key x) k) (xs ++ c ∷ []))
  present g xs c holds there k = holds k ∙ sym (ap (option_map seen) (step (same (key c) k) refl))
    where
      there_too : is_some (find (λ x. same (key x) (key c)) xs) ≡ true
      there_too = sym (some_mapped seen (find (λ x. same (key x) (key c)) xs)) ∙ ap is_some (sym (holds (key c))) ∙ there

      step : (b : Bool) → same (key c) k ≡ b → find (λ x. same (key x) k) (xs ++ c ∷ []) ≡ find (λ x. same (key x) k) xs
      step true is = find_kept (λ x. same (key x) k) xs (c ∷ []) (subst (λ l. is_some (find (λ x. same (key x) l) xs) ≡ true) (same_is (key c) k is) there_too)
      step false is = find_past (λ x. same (key x) k) xs c is

  -- else its key leads to it
  pub absent : (g after : K → Option V) (xs : List C) (c : C) → ((k : K) → g k ≡ option_map seen (find (λ x. same (key x) k) xs))
      → is_some (g (key c)) ≡ false → ((k : K) → after k ≡ cond (same (key c) k) (Some (seen c)) (g k))
      → (k : K) → after k ≡ option_map seen (find (λ x. same (key x) k) (xs ++ c ∷ []))
  absent g after xs c holds none updates k = updates k ∙ step (same (key c) k) refl
    where
      none_too : is_some (find (λ x. same (key x) (key c)) xs) ≡ false
      none_too = sym (some_mapped seen (find (λ x. same (key x) (key c)) xs)) ∙ ap is_some (sym (holds (key c))) ∙ none

      step : (b : Bool) → same (key c) k ≡ b → cond b (Some (seen c)) (g k) ≡ option_map seen (find (λ x. same (key x) k) (xs ++ c ∷ []))
      step true is = sym (ap (option_map seen)
          (find_next (λ x. same (key x) k) xs (c ∷ []) (subst (λ l. is_some (find (λ x. same (key x) l) xs) ≡ false) (same_is (key c) k is) none_too)
          ∙ ap (λ b. cond b (Some c) None) is))
      step false is = holds k ∙ sym (ap (option_map seen) (find_past (λ x. same (key x) k) xs c is))
