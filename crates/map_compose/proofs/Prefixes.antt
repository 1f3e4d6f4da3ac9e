-- Which of rising runs may meet a run: those from the first that does not end before it, up to the first that begins after it.
use Rattle.std.proofs.Common.{ℕ, zero, suc, ◌≡◌, ◌+◌, ◌-◌, ◌<◌, ◌≤◌, ◌++◌, List, [], ◌∷◌, length, take, drop, refl, sym, ap, ◌∙◌, arith, subst, Option, Some, None}
use Rattle.std.{proofs.Common.{length-drop, slice_index_or}, specs.Prelude.{min, max, option_to_list}, specs.List.{filter_map, cons_option, AllByRecursion}}
use Rattle.std.proofs.lemmas.{Bool.{le-ltb}, List.{append-nil}}
use Rattle.ppdb_base.specs.{declared.offsets.Run.{Run}, Offsets.{RiseFrom, end_of, new_end_of}}
use Rattle.map_compose.{specs.Runs.{meet}, specs.Joining.{IsShort}, proofs.Making.{made_join}, proofs.Putting.{take_at, take_over}, proofs.Rising.{none_met, weaker}}

none_at : (r : Run) (c d : ℕ) (qs : List Run) → RiseFrom c d qs → new_end_of r ≤ c → filter_map (meet r) qs ≡ []
none_at r c d qs rise past = none_met r c d qs [] (subst (RiseFrom c d) (sym (append-nil qs)) rise) past

stops : (r : Run) (a b : ℕ) (xs : List Run) (i : ℕ) (d : Run) → RiseFrom a b xs → i < length xs → new_end_of r ≤ (slice_index_or xs i d).old
    → filter_map (meet r) (take i xs) ≡ filter_map (meet r) xs
stops r a b [] i d rise inside past = absurd (omega (arith, inside))
stops r a b (x ∷ xs) zero d rise inside past = sym (none_at r x.old x.new (x ∷ xs) (rise.0, omega arith, omega arith, rise.3) past)
stops r a b (x ∷ xs) (suc i) d rise inside past = ap (cons_option (meet r x)) (stops r (end_of x) (new_end_of x) xs i d rise.3 (omega (arith, inside)) past)

pub stops_here : (r : Run) (xs : List Run) (i : ℕ) (d : Run) → RiseFrom 0 0 xs → i < length xs → new_end_of r ≤ (slice_index_or xs i d).old
    → filter_map (meet r) (take i xs) ≡ filter_map (meet r) xs
stops_here r xs i d rise inside past = stops r 0 0 xs i d rise inside past

pub begins_there : (r : Run) (xs : List Run) (n : ℕ) → ((k : ℕ) (d : Run) → k < n → k < length xs → end_of (slice_index_or xs k d) ≤ r.new)
    → filter_map (meet r) (take (length xs - n) (drop n xs)) ≡ filter_map (meet r) xs
begins_there r xs n before = ap (filter_map (meet r)) (take_over (drop n xs) (length xs - n) (let e = length-drop n xs in omega (arith, e))) ∙ skip xs n before
  where
    skip : (xs : List Run) (n : ℕ) → ((k : ℕ) (d : Run) → k < n → k < length xs → end_of (slice_index_or xs k d) ≤ r.new)
        → filter_map (meet r) (drop n xs) ≡ filter_map (meet r) xs
    skip [] zero before = refl
    skip [] (suc n) before = refl
    skip (x ∷ xs) zero before = refl
    skip (x ∷ xs) (suc n) before =
        let early : end_of x ≤ r.new = before 0 x (omega arith) (omega arith) in
        skip xs n (λ k d less inside. before (suc k) d (omega (arith, less)) (omega (arith, inside)))
        ∙ sym (rw (le-ltb (max r.new x.old) (min (new_end_of r) (end_of x)) (omega (arith, early))) refl)

pub one_more : (r : Run) (xs : List Run) (i : ℕ) (d : Run) → i < length xs
    → filter_map (meet r) (take i xs) ++ option_to_list (meet r (slice_index_or xs i d)) ≡ filter_map (meet r) (take (i + 1) xs)
one_more r xs i d inside =
    sym (ap (filter_map (meet r)) (take_at xs i d inside) ∙ made_join (meet r) (take i xs) (slice_index_or xs i d ∷ [])
    ∙ ap (λ l. filter_map (meet r) (take i xs) ++ l) (of (meet r (slice_index_or xs i d))))
  where
    of : (o : Option Run) → cons_option o [] ≡ option_to_list o
    of None = refl
    of (Some p) = refl

pub all_drop : {X : Type 0} (P : X → Type 0) (xs : List X) (n : ℕ) → AllByRecursion P xs → AllByRecursion P (drop n xs)
all_drop P [] zero all = tt
all_drop P [] (suc n) all = tt
all_drop P (x ∷ xs) zero all = all
all_drop P (x ∷ xs) (suc n) all = all_drop P xs n all.1

pub rise_drop : (a b : ℕ) (xs : List Run) (n : ℕ) → RiseFrom a b xs → RiseFrom 0 0 (drop n xs)
rise_drop a b [] zero rise = tt
rise_drop a b [] (suc n) rise = tt
rise_drop a b (x ∷ xs) zero rise = weaker 0 0 a b (x ∷ xs) (omega arith) (omega arith) rise
rise_drop a b (x ∷ xs) (suc n) rise = rise_drop (end_of x) (new_end_of x) xs n rise.3

pub rest_is : (xs : List Run) (n : ℕ) → take (length xs - n) (drop n xs) ≡ drop n xs
rest_is xs n = take_over (drop n xs) (length xs - n) (let e = length-drop n xs in omega (arith, e))

pub short_rest : (xs : List Run) (n : ℕ) → AllByRecursion IsShort xs → AllByRecursion IsShort (take (length xs - n) (drop n xs))
short_rest xs n all = subst (AllByRecursion IsShort) (sym (rest_is xs n)) (all_drop IsShort xs n all)

pub rise_rest : (xs : List Run) (n : ℕ) → RiseFrom 0 0 xs → RiseFrom 0 0 (take (length xs - n) (drop n xs))
rise_rest xs n rise = subst (RiseFrom 0 0) (sym (rest_is xs n)) (rise_drop 0 0 xs n rise)

pub short_at : (xs : List Run) (i : ℕ) (d : Run) → AllByRecursion IsShort xs → i < length xs → IsShort (slice_index_or xs i d)
short_at [] i d all inside = absurd (omega (arith, inside))
short_at (x ∷ xs) zero d all inside = all.0
short_at (x ∷ xs) (suc i) d all inside = short_at xs i d all.1 (omega (arith, inside))
