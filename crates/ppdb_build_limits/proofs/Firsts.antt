-- The first limit that is met, one part after another.
use Rattle.std.proofs.Common.{◌≡◌, ℕ, zero, suc, ◌+◌, ◌-◌, ◌<◌, List, [], ◌∷◌, length, take, All, ◌≤◌, ◌≢◌, get_or, refl, sym, ap, ◌∙◌, subst, arith, Option, Some}
use Rattle.std.{proofs.Common.{None}, specs.List.{filter_map, cons_option}, specs.Option.{option_or}, specs.Prelude.{slice_get, slice_index}}
use Rattle.std.proofs.lemmas.{List.{take_all}, List.Elements.{All-nil, All-cons, All-head, All-tail}, List.FromFn.{length-map-range_with_len}}
use Rattle.ppdb_base.specs.declared.limits.Limit.{Limit}
use Rattle.ppdb_values.specs.{declared.file.FileValue.{FileValue}, declared.file.MethodValue.{MethodValue}, Parts.{method_at}}
use Rattle.ppdb_build_canon.specs.{Canonical.{method_rows, method_row_of}, Limits.{first_met}}
use Rattle.sequence_points.specs.Written.{first_of, last_of}

-- the first of some answers
pub first_or : {X Y : Type 0} (f : X → Option Y) (x : X) (xs : List X) → first_of (filter_map f (x ∷ xs)) ≡ option_or (f x) (first_of (filter_map f xs))
first_or {X} {Y} f x xs = by (f x)
  where
    by : (o : Option Y) → first_of (cons_option o (filter_map f xs)) ≡ option_or o (first_of (filter_map f xs))
    by None = refl
    by (Some y) = refl

-- where nothing was answered up to a place, the answer there is the first
pub first_at : {X Y : Type 0} (f : X → Option Y) (xs : List X) (i : ℕ) (d : X) (y : Y) → i < length xs → filter_map f (take i xs) ≡ []
    → f (get_or xs i d) ≡ Some y → first_of (filter_map f xs) ≡ Some y
first_at f [] i d y h none is = absurd (omega (arith, h))
first_at f (x ∷ xs) zero d y h none is = first_or f x xs ∙ ap (λ o. option_or o (first_of (filter_map f xs))) is
first_at {X} {Y} f (x ∷ xs) (suc i) d y h none is = by (f x) refl none (λ rest. first_at f xs i d y (omega (arith, h)) rest is)
  where
    by : (o : Option Y) → f x ≡ o → cons_option o (filter_map f (take i xs)) ≡ [] → (filter_map f (take i xs) ≡ [] → first_of (filter_map f xs) ≡ Some y)
        → first_of (filter_map f (x ∷ xs)) ≡ Some y
    by None e rest later = first_or f x xs ∙ ap (λ o. option_or o (first_of (filter_map f xs))) e ∙ later rest
    by (Some z) e rest later = cc

pub none_more : {X Y : Type 0} (f : X → Option Y) (xs : List X) (i : ℕ) (d : X) → i < length xs → filter_map f (take i xs) ≡ [] → f (get_or xs i d) ≡ None
    → filter_map f (take (i + 1) xs) ≡ []
none_more f [] i d h none is = absurd (omega (arith, h))
none_more f (x ∷ xs) zero d h none is = ap (λ o. cons_option o []) is
none_more {X} {Y} f (x ∷ xs) (suc i) d h none is = by (f x) refl none (λ rest. none_more f xs i d (omega (arith, h)) rest is)
  where
    by : (o : Option Y) → f x ≡ o → cons_option o (filter_map f (take i xs)) ≡ [] → (filter_map f (take i xs) ≡ [] → filter_map f (take (i + 1) xs) ≡ [])
        → filter_map f (take (suc i + 1) (x ∷ xs)) ≡ []
    by None e rest later = let on : suc i + 1 ≡ suc (i + 1) = omega arith in ap (λ n. filter_map f (take n (x ∷ xs))) on
        ∙ ap (λ o. cons_option o (filter_map f (take (i + 1) xs))) e ∙ later rest
    by (Some z) e rest later = cc

-- the last element
pub last_is : {X : Type 0} (xs : List X) → last_of xs ≡ slice_get xs (length xs - 1)
last_is [] = refl
last_is (x ∷ []) = refl
last_is (x ∷ y ∷ xs) =
    let here : suc (length xs) - 1 ≡ length xs = omega arith in
    let there : suc (suc (length xs)) - 1 ≡ suc (length xs) = omega arith in
    last_is (y ∷ xs) ∙ ap (slice_get (y ∷ xs)) here ∙ ap (slice_get (x ∷ y ∷ xs)) (sym there)

-- eight answers, one after another, the first of them
pub first_of_eight : {Y : Type 0} (a b c d e f g h : Option Y)
    → option_or (option_or (option_or (option_or (option_or (option_or (option_or a b) c) d) e) f) g) h
    ≡ first_of (cons_option a (cons_option b (cons_option c (cons_option d (cons_option e (cons_option f (cons_option g (cons_option h []))))))))
first_of_eight (Some y) b c d e f g h = refl
first_of_eight None (Some y) c d e f g h = refl
first_of_eight None None (Some y) d e f g h = refl
first_of_eight None None None (Some y) e f g h = refl
first_of_eight None None None None (Some y) f g h = refl
first_of_eight None None None None None (Some y) g h = refl
first_of_eight None None None None None None (Some y) h = refl
first_of_eight None None None None None None None (Some y) = refl
first_of_eight None None None None None None None None = refl

-- three
pub first_met_three : (a b c : Option Limit) → option_or (option_or a b) c ≡ first_met (a ∷ b ∷ c ∷ [])
first_met_three (Some y) b c = refl
first_met_three None (Some y) c = refl
first_met_three None None (Some y) = refl
first_met_three None None None = refl

-- ---- rows of MethodDebugInformation

pub method_rows_counted : (value : FileValue) (methods : List MethodValue) → methods ≢ [] → length (method_rows value methods) ≡ slice_index value.rows 0x06
method_rows_counted value [] some = absurd (some refl)
method_rows_counted value (method ∷ methods) some = length-map-range_with_len (λ m. method_row_of value (method_at value m)) 1 (slice_index value.rows 0x06)

-- ---- all of some elements

pub all_more : {X : Type 0} (P : X → Type 0) (xs : List X) (i : ℕ) (d : X) → i < length xs → All P (take i xs) → P (get_or xs i d) → All P (take (i + 1) xs)
all_more P [] i d h all here = absurd (omega (arith, h))
all_more P (x ∷ xs) zero d h all here = All-cons P x [] here (All-nil P)
all_more {X} P (x ∷ xs) (suc i) d h all here =
    let on : suc (i + 1) ≡ suc i + 1 = omega arith in
    subst (λ n. All P (take n (x ∷ xs))) on
    (All-cons P x (take (i + 1) xs) (All-head P x (take i xs) all) (all_more P xs i d (omega (arith, h)) (All-tail P x (take i xs) all) here))

pub all_whole : {X : Type 0} (P : X → Type 0) (xs : List X) (i : ℕ) → length xs ≤ i → All P (take i xs) → All P xs
all_whole P xs i h all = subst (All P) (take_all i xs h) all
