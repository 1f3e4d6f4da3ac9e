-- Lists of what becomes of rows, joined end to end.
use Rattle.std.{proofs.Common.{◌≡◌, ℕ, ◌+◌, ◌++◌, List, [], ◌∷◌, Option, Some, None, map, refl, ap, ◌∙◌}, specs.Prelude.{flat_map}, specs.List.{filter_map}}
use Rattle.std.{specs.List.{cons_option, enumerate_from}, specs.Option.{option_map}, proofs.lemmas.List.{map-append}}

-- what is made of numbered items without their numbers
pub map_numbered : {A B C : Type 0} (f : ℕ × A → B) (g : B → C) (h : A → C) → ((n : ℕ) (x : A) → g (f (n, x)) ≡ h x) → (n : ℕ) (xs : List A)
    → map g (map f (enumerate_from n xs)) ≡ map h xs
map_numbered f g h same n [] = refl
map_numbered f g h same n (x ∷ xs) = ap (λ y. y ∷ map g (map f (enumerate_from (n + 1) xs))) (same n x) ∙ ap (λ l. h x ∷ l) (map_numbered f g h same (n + 1) xs)

pub filter_map_numbered : {A B C : Type 0} (f : ℕ × A → B) (g : B → Option C) (h : A → Option C) → ((n : ℕ) (x : A) → g (f (n, x)) ≡ h x)
    → (n : ℕ) (xs : List A) → filter_map g (map f (enumerate_from n xs)) ≡ filter_map h xs
filter_map_numbered f g h same n [] = refl
filter_map_numbered f g h same n (x ∷ xs) =
    ap (λ o. cons_option o (filter_map g (map f (enumerate_from (n + 1) xs)))) (same n x)
    ∙ ap (cons_option (h x)) (filter_map_numbered f g h same (n + 1) xs)

-- what stays and is then changed
map_cons_option : {A B : Type 0} (f : A → B) (o : Option A) (xs : List A) → map f (cons_option o xs) ≡ cons_option (option_map f o) (map f xs)
map_cons_option f None xs = refl
map_cons_option f (Some x) xs = refl

pub map_filter_map : {A B C : Type 0} (f : A → Option B) (g : B → C) (xs : List A) → map g (filter_map f xs) ≡ filter_map (λ x. option_map g (f x)) xs
map_filter_map f g [] = refl
map_filter_map f g (x ∷ xs) = map_cons_option g (f x) (filter_map f xs) ∙ ap (cons_option (option_map g (f x))) (map_filter_map f g xs)

pub filter_map_map : {A B C : Type 0} (f : A → B) (g : B → Option C) (xs : List A) → filter_map g (map f xs) ≡ filter_map (λ x. g (f x)) xs
filter_map_map f g [] = refl
filter_map_map f g (x ∷ xs) = ap (cons_option (g (f x))) (filter_map_map f g xs)

-- end to end
cons_append : {A : Type 0} (o : Option A) (xs ys : List A) → cons_option o (xs ++ ys) ≡ cons_option o xs ++ ys
cons_append None xs ys = refl
cons_append (Some x) xs ys = refl

pub filter_map_append : {A B : Type 0} (f : A → Option B) (xs ys : List A) → filter_map f (xs ++ ys) ≡ filter_map f xs ++ filter_map f ys
filter_map_append f [] ys = refl
filter_map_append f (x ∷ xs) ys = ap (cons_option (f x)) (filter_map_append f xs ys) ∙ cons_append (f x) (filter_map f xs) (filter_map f ys)

pub map_flat : {A B C : Type 0} (g : B → C) (f : A → List B) (xs : List A) → map g (flat_map f xs) ≡ flat_map (λ x. map g (f x)) xs
map_flat g f [] = refl
map_flat g f (x ∷ xs) = map-append g (f x) (flat_map f xs) ∙ ap (λ l. map g (f x) ++ l) (map_flat g f xs)

pub filter_map_flat : {A B C : Type 0} (g : B → Option C) (f : A → List B) (xs : List A)
    → filter_map g (flat_map f xs) ≡ flat_map (λ x. filter_map g (f x)) xs
filter_map_flat g f [] = refl
filter_map_flat g f (x ∷ xs) = filter_map_append g (f x) (flat_map f xs) ∙ ap (λ l. filter_map g (f x) ++ l) (filter_map_flat g f xs)

pub flat_same : {A B : Type 0} (f g : A → List B) → ((x : A) → f x ≡ g x) → (xs : List A) → flat_map f xs ≡ flat_map g xs
flat_same f g same [] = refl
flat_same f g same (x ∷ xs) = ap (λ l. l ++ flat_map f xs) (same x) ∙ ap (λ l. g x ++ l) (flat_same f g same xs)
