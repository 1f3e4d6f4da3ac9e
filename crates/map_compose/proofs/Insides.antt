-- Runs that lie inside the images of one run, and what is counted of them.
use Rattle.std.proofs.Common.{ℕ, zero, suc, ◌≡◌, ◌+◌, ◌-◌, ◌^◌, ◌<◌, ◌≤◌, ◌++◌, ◌&&◌, Bool, true, false, cond, List, [], ◌∷◌, length, take, drop, map, refl, sym, ap}
use Rattle.std.{proofs.Common.{◌∙◌, arith, subst, Option, Some, None, min, max, slice_index_or}, specs.Prelude.{nat_eq, nat_lt, option_to_list}}
use Rattle.std.{specs.List.{filter_map, cons_option, AllByRecursion}, specs.List.Sorted.{IsNonDecreasingBy, IsPartitionPoint}, proofs.lemmas.Bool.{false≢true}}
use Rattle.std.proofs.lemmas.{Bool.{eqb-true, eq-eqb, and_parts, lt-ltb, le-ltb, ltb-true, ltb-false}, List.{take-append-drop, map-append}}
use Rattle.ppdb_base.specs.{declared.offsets.Run.{Run}, Offsets.{RiseFrom, end_of, new_end_of}}
use Rattle.ppdb_maps.specs.declared.line.{Line.{Line}, Line.TheVariants.{Kept}}
use Rattle.ppdb_maps_text.specs.{declared.counted.Counted.{Counted}, MapTexts.{ended, line_text}, Putting.{Puts}}
use Rattle.map_compose.specs.{Joining.{IsShort, AreRuns, EndsAlike, HoldsEnd, JoinsRuns, Joins}, Laws.{Apart}, Lengths.{IsPast, Inside, EndsAfter, taken_on}}
use Rattle.map_compose.{specs.Lengths.{not_less, runs_length}, specs.Runs.{goes_on, meet, part}, specs.Says.{lines_text, PutsLines}, proofs.Digits.{Small}}
use Rattle.map_compose.proofs.{Digits.{parted_count}, Prefixes.{all_drop, rise_drop, rest_is}, JoinedRuns.{joins_apart, joins_same, joins_then, runs_then}}
use Rattle.map_compose.proofs.{Making.{made_join}, Putting.{says_one, says_then, says_same, take_at, take_over}, Rising.{run_same}}

-- ---- pieces of a list

pub each_at : {X : Type 0} (P : X → Type 0) (xs : List X) (k : ℕ) (d : X) → AllByRecursion P xs → k < length xs → P (slice_index_or xs k d)
each_at P [] k d all inside = absurd (omega (arith, inside))
each_at P (x ∷ xs) zero d all inside = all.0
each_at P (x ∷ xs) (suc k) d all inside = each_at P xs k d all.1 (omega (arith, inside))

pub all_take : {X : Type 0} (P : X → Type 0) (xs : List X) (n : ℕ) → AllByRecursion P xs → AllByRecursion P (take n xs)
all_take P [] zero all = tt
all_take P [] (suc n) all = tt
all_take P (x ∷ xs) zero all = tt
all_take P (x ∷ xs) (suc n) all = (all.0, all_take P xs n all.1)

rise_take : (a b : ℕ) (xs : List Run) (n : ℕ) → RiseFrom a b xs → RiseFrom a b (take n xs)
rise_take a b [] zero rise = tt
rise_take a b [] (suc n) rise = tt
rise_take a b (x ∷ xs) zero rise = tt
rise_take a b (x ∷ xs) (suc n) rise = (rise.0, rise.1, rise.2, rise_take (end_of x) (new_end_of x) xs n rise.3)

pub piece_runs : (xs : List Run) (from many : ℕ) → AreRuns xs → AreRuns (take many (drop from xs))
piece_runs xs from many are = record {
  rise = rise_take 0 0 (drop from xs) many (rise_drop 0 0 xs from are.rise);
  short = all_take IsShort (drop from xs) many (all_drop IsShort xs from are.short);
}

apart_rest : (x : Run) (xs : List Run) → Apart (x ∷ xs) → Apart xs
apart_rest x [] apart = tt
apart_rest x (y ∷ ys) apart = apart.1

apart_drop : (xs : List Run) (n : ℕ) → Apart xs → Apart (drop n xs)
apart_drop [] zero apart = tt
apart_drop [] (suc n) apart = tt
apart_drop (x ∷ xs) zero apart = apart
apart_drop (x ∷ xs) (suc n) apart = apart_drop xs n (apart_rest x xs apart)

apart_take : (xs : List Run) (n : ℕ) → Apart xs → Apart (take n xs)
apart_take [] zero apart = tt
apart_take [] (suc n) apart = tt
apart_take (x ∷ xs) zero apart = tt
apart_take (x ∷ []) (suc zero) apart = tt
apart_take (x ∷ []) (suc (suc n)) apart = tt
apart_take (x ∷ y ∷ ys) (suc zero) apart = tt
apart_take (x ∷ y ∷ ys) (suc (suc n)) apart = (apart.0, apart_take (y ∷ ys) (suc n) apart.1)

pub piece_apart : (xs : List Run) (from many : ℕ) → Apart xs → Apart (take many (drop from xs))
piece_apart xs from many apart = apart_take (drop from xs) many (apart_drop xs from apart)

-- ---- which lie inside

pub inside_small : (run : Run) (others : List Run) → IsShort run → AllByRecursion (Inside run) others → AllByRecursion (Small run) others
inside_small run [] short all = tt
inside_small run (other ∷ others) short all =
    let begins = all.0.begins in
    let ends = all.0.ends in
    (omega (arith, short.1, begins, ends), inside_small run others short all.1)

pub inside_ends : (run : Run) (others : List Run) (k : ℕ) (d q : Run) → IsShort run → AllByRecursion (Inside run) others → k < length others
    → q ≡ taken_on run (slice_index_or others k d) → end_of q < 2 ^ 32
inside_ends run others k d q short all within is =
    let inside = each_at (Inside run) others k d all within in
    let begins = inside.begins in
    let ends = inside.ends in
    let same = ap end_of is in
    omega (arith, begins, ends, same, short.1)

olds_from : (a b : ℕ) (rs : List Run) (j : ℕ) (d : Run) → RiseFrom a b rs → j < length rs → a ≤ (slice_index_or rs j d).old
olds_from a b [] j d rise inside = absurd (omega (arith, inside))
olds_from a b (r ∷ rs) zero d rise inside = rise.1
olds_from a b (r ∷ rs) (suc j) d rise inside =
    let later = olds_from (end_of r) (new_end_of r) rs j d rise.3 (omega (arith, inside)) in
    omega (arith, rise.1, later)

pub olds_rise : (more a b : ℕ) (rs : List Run) → RiseFrom a b rs → IsNonDecreasingBy (λ (r : Run). more + r.old) rs
olds_rise more a b [] rise i j d le within = absurd (omega (arith, within))
olds_rise more a b (r ∷ rs) rise zero zero d le within = omega arith
olds_rise more a b (r ∷ rs) rise zero (suc j) d le within =
    let later = olds_from (end_of r) (new_end_of r) rs j d rise.3 (omega (arith, within)) in
    omega (arith, later)
olds_rise more a b (r ∷ rs) rise (suc i) zero d le within = absurd (omega (arith, le))
olds_rise more a b (r ∷ rs) rise (suc i) (suc j) d le within =
    olds_rise more (end_of r) (new_end_of r) rs rise.3 i j d (omega (arith, le)) (omega (arith, within))

-- those before the place are less
pub count_less : (run : Run) (least : ℕ) (others : List Run) (n : ℕ) → AllByRecursion (Inside run) others
    → IsPartitionPoint (λ (o : Run). nat_lt (run.old + o.old) (least + run.new) ≡ true)
    (λ (o : Run). nat_lt (run.old + o.old) (least + run.new) ≡ false) others n
    → length others - n ≡ not_less run least others
count_less run least others n all point =
    sym (parted_count run least others n
    (λ k d less inside.
    let lies = (each_at (Inside run) others k d all inside).begins in
    let test = ltb-true _ _ (point.0 k d (omega arith) less) in
    lt-ltb _ _ (omega (arith, lies, test)))
    (λ k d le inside.
    let lies = (each_at (Inside run) others k d all inside).begins in
    let test = ltb-false _ _ (point.1 k d le inside) in
    le-ltb _ _ (omega (arith, lies, test))))

-- those that end by the run's end, after one that ends after its begin
pub all_inside : (run : Run) (xs : List Run) (n : ℕ) → RiseFrom 0 0 xs → EndsAfter run.new xs
    → ((k : ℕ) (d : Run) → k < n → k < length xs → end_of (slice_index_or xs k d) ≤ new_end_of run) → AllByRecursion (Inside run) (take (n - 1) (drop 1 xs))
all_inside run [] n rise after by = all_take (Inside run) (drop 1 []) (n - 1) tt
all_inside run (x ∷ xs) zero rise after by = all_take (Inside run) [] 0 tt
all_inside run (x ∷ xs) (suc n) rise after by =
    let e : suc n - 1 ≡ n = omega arith in
    rw e (of (end_of x) (new_end_of x) xs n (omega (arith, after)) rise.3 (λ k d less inside. by (suc k) d (omega (arith, less)) (omega (arith, inside))))
  where
    of : (a b : ℕ) (ys : List Run) (m : ℕ) → run.new ≤ a → RiseFrom a b ys
        → ((k : ℕ) (d : Run) → k < m → k < length ys → end_of (slice_index_or ys k d) ≤ new_end_of run) → AllByRecursion (Inside run) (take m ys)
    of a b [] zero le rise by = tt
    of a b [] (suc m) le rise by = tt
    of a b (y ∷ ys) zero le rise by = tt
    of a b (y ∷ ys) (suc m) le rise by = (
      record { begins = omega (arith, le, rise.1); ends = by 0 y (omega arith) (omega arith) },
      of (end_of y) (new_end_of y) ys m (omega (arith, le, rise.1)) rise.3 (λ k d less inside. by (suc k) d (omega (arith, less)) (omega (arith, inside))),
    )

pub ends_after : (offset : ℕ) (xs : List Run) (n : ℕ) → ((k : ℕ) (d : Run) → n ≤ k → k < length xs → offset < end_of (slice_index_or xs k d))
    → EndsAfter offset (take (length xs - n) (drop n xs))
ends_after offset xs n after = subst (EndsAfter offset) (sym (rest_is xs n)) (of xs n after)
  where
    of : (xs : List Run) (n : ℕ) → ((k : ℕ) (d : Run) → n ≤ k → k < length xs → offset < end_of (slice_index_or xs k d)) → EndsAfter offset (drop n xs)
    of [] zero after = tt
    of [] (suc n) after = tt
    of (x ∷ xs) zero after = after 0 x (omega arith) (omega arith)
    of (x ∷ xs) (suc n) after = of xs n (λ k d le inside. after (suc k) d (omega (arith, le)) (omega (arith, inside)))

-- ---- what they meet in

inside_meets : (run other : Run) → 0 < other.length → Inside run other → meet run other ≡ Some (taken_on run other)
inside_meets run other some inside =
    let begins = inside.begins in
    let ends = inside.ends in
    let low : max run.new other.old ≡ other.old = omega (arith, begins) in
    let high : min (new_end_of run) (end_of other) ≡ end_of other = omega (arith, ends) in
    ap (λ l. part run other l (min (new_end_of run) (end_of other))) low ∙ ap (part run other other.old) high
    ∙ ap (λ b. cond b (Some (record {
      old = run.old + (other.old - run.new);
      new = other.new + (other.old - other.old);
      length = end_of other - other.old;
    })) None) (lt-ltb other.old (end_of other) (omega (arith, some)))
    ∙ ap Some (run_same _ (taken_on run other) refl (omega arith) (omega arith))

pub met_inside : (run : Run) (others : List Run) → AllByRecursion IsShort others → AllByRecursion (Inside run) others
    → filter_map (meet run) others ≡ map (taken_on run) others
met_inside run [] short all = refl
met_inside run (other ∷ others) short all =
    ap (λ o. cons_option o (filter_map (meet run) others)) (inside_meets run other short.0.0 all.0)
    ∙ ap (λ l. taken_on run other ∷ l) (met_inside run others short.1 all.1)

-- ---- joined with the one that is held

apart_still : (run h o q : Run) → EndsAlike h (taken_on run o) → Inside run o → Inside run q → goes_on o q ≡ false → goes_on h (taken_on run q) ≡ false
apart_still run h o q alike in_o in_q apart = of (goes_on h (taken_on run q)) refl
  where
    of : (b : Bool) → goes_on h (taken_on run q) ≡ b → b ≡ false
    of false is = refl
    of true is =
        let ends = and_parts _ _ is in
        let old : end_of h ≡ run.old + (q.old - run.new) = eqb-true (end_of h) (run.old + (q.old - run.new)) ends.0 in
        let new : new_end_of h ≡ q.new = eqb-true (new_end_of h) q.new ends.1 in
        let was : end_of h ≡ run.old + (o.old - run.new) + o.length = alike.old in
        let also : new_end_of h ≡ o.new + o.length = alike.new in
        let a = in_o.begins in
        let b = in_q.begins in
        let one : end_of o ≡ q.old = omega (arith, old, was, a, b) in
        let two : new_end_of o ≡ q.new = omega (arith, new, also) in
        absurd (false≢true (sym apart ∙ ap (λ t. t && nat_eq (new_end_of o) q.new) (eq-eqb (end_of o) q.old one) ∙ eq-eqb (new_end_of o) q.new two))

apart_joins : (run h o : Run) (mid : List Run) (l : Run) → EndsAlike h (taken_on run o) → Apart (o ∷ (mid ++ l ∷ []))
    → AllByRecursion (Inside run) (o ∷ (mid ++ l ∷ []))
    → JoinsRuns (Some h) (Some (taken_on run l)) (h ∷ map (taken_on run) mid) (map (taken_on run) (mid ++ l ∷ []))
apart_joins run h o [] l alike apart all = joins_apart h (taken_on run l) (apart_still run h o l alike all.0 all.1.0 apart.0)
apart_joins run h o (m ∷ mid) l alike apart all =
    runs_then (Some h) (Some (taken_on run m)) (Some (taken_on run l)) (h ∷ []) (taken_on run m ∷ map (taken_on run) mid) (taken_on run m ∷ [])
    (map (taken_on run) (mid ++ l ∷ []))
    (joins_apart h (taken_on run m) (apart_still run h o m alike all.0 all.1.0 apart.0))
    (apart_joins run (taken_on run m) m mid l (record { old = refl; new = refl }) apart.1 all.1)

pub inside_joins : (run o : Run) (mid : List Run) (l : Run) (before held : Option Run) (s t u v : Counted) → Joins before held s t (taken_on run o ∷ [])
    → HoldsEnd held (taken_on run o) → PutsLines t u (map (λ r. Kept r) (option_to_list held)) → PutsLines u v (map (λ r. Kept r) (map (taken_on run) mid))
    → Apart (o ∷ (mid ++ l ∷ [])) → AllByRecursion (Inside run) (o ∷ (mid ++ l ∷ []))
    → Joins before (Some (taken_on run l)) s v (map (taken_on run) (o ∷ (mid ++ l ∷ [])))
inside_joins run o mid l before None s t u v first ends put more apart all = absurd ends
inside_joins run o mid l before (Some h) s t u v first ends put more apart all = record {
  given = first.given ++ (h ∷ map (taken_on run) mid);
  joins = runs_then before (Some h) (Some (taken_on run l)) first.given (h ∷ map (taken_on run) mid) (taken_on run o ∷ [])
      (map (taken_on run) (mid ++ l ∷ [])) first.joins (apart_joins run h o mid l ends apart all);
  puts = says_same s v _ _ (sym (map-append (λ r. Kept r) first.given (h ∷ map (taken_on run) mid)))
      (says_then s t v (map (λ r. Kept r) first.given) (Kept h ∷ map (λ r. Kept r) (map (taken_on run) mid)) first.puts
      (says_then t u v (Kept h ∷ []) (map (λ r. Kept r) (map (taken_on run) mid)) put more));
}

-- ---- texts that are too long

pub past_kept : (old new : Counted) (xs : List Line) → IsPast old → PutsLines old new xs → IsPast new
past_kept old new xs past h =
    let counted = (h.puts past.fits).counted in
    let long = past.long in
    record { long = omega (arith, counted, long); fits = omega (arith, counted) }

pub lines_counted : (old new : Counted) (xs : List Line) (bytes : ℕ) → ((text : List ℕ) → length text ≡ bytes → Puts old new text)
    → bytes ≡ length (lines_text xs) → PutsLines old new xs
lines_counted old new xs bytes counts is = record { puts = λ fits. counts (lines_text xs) (sym is) }

-- ---- a list from its pieces

pub first_and_last : {X : Type 0} (xs : List X) (last : ℕ) (d e : X) → 2 ≤ length xs → last + 1 ≡ length xs
    → slice_index_or xs 0 d ∷ (take (last - 1) (drop 1 xs) ++ slice_index_or xs last e ∷ []) ≡ xs
first_and_last [] last d e two is = absurd (omega (arith, two))
first_and_last (x ∷ xs) zero d e two is = absurd (omega (arith, two, is))
first_and_last (x ∷ xs) (suc last) d e two is =
    let n : suc last - 1 ≡ last = omega arith in
    ap (λ k. x ∷ (take k xs ++ slice_index_or xs last e ∷ [])) n
    ∙ ap (λ l. x ∷ l) (sym (take_at xs last e (omega (arith, is))) ∙ take_over xs (last + 1) (omega (arith, is)))

pub last_of : {X : Type 0} (xs : List X) (last : ℕ) (d : X) → last + 1 ≡ length xs → take last xs ++ slice_index_or xs last d ∷ [] ≡ xs
last_of xs last d is = sym (take_at xs last d (omega (arith, is))) ∙ take_over xs (last + 1) (omega (arith, is))

pub meets_split : (run : Run) (xs : List Run) (n : ℕ) (d : Run) → 0 < n → n ≤ length xs
    → option_to_list (meet run (slice_index_or xs 0 d)) ++ (filter_map (meet run) (take (n - 1) (drop 1 xs))
    ++ filter_map (meet run) (take (length xs - n) (drop n xs))) ≡ filter_map (meet run) xs
meets_split run [] n d some le = absurd (omega (arith, some, le))
meets_split run (x ∷ xs) zero d some le = absurd (omega (arith, some))
meets_split run (x ∷ xs) (suc n) d some le =
    let k : suc n - 1 ≡ n = omega arith in
    ap (λ m. option_to_list (meet run x) ++ (filter_map (meet run) (take m xs) ++ filter_map (meet run) (take (length (x ∷ xs) - suc n) (drop n xs)))) k
    ∙ ap (λ l. option_to_list (meet run x) ++ (filter_map (meet run) (take n xs) ++ filter_map (meet run) l)) (rest_is (x ∷ xs) (suc n))
    ∙ ap (λ l. option_to_list (meet run x) ++ l) (sym (made_join (meet run) (take n xs) (drop n xs)) ∙ ap (filter_map (meet run)) (take-append-drop n xs))
    ∙ of (meet run x)
  where
    of : (o : Option Run) → option_to_list o ++ filter_map (meet run) xs ≡ cons_option o (filter_map (meet run) xs)
    of None = refl
    of (Some p) = refl

-- ---- all of it

pub counted_joins : (run : Run) (others : List Run) (last : ℕ) (d e q w : Run) (before held : Option Run) (s t u v : Counted) (bytes : ℕ)
    → 2 ≤ length others → last + 1 ≡ length others → AreRuns others → Apart others → AllByRecursion (Inside run) others
    → q ≡ taken_on run (slice_index_or others 0 d) → w ≡ taken_on run (slice_index_or others last e)
    → Joins before held s t (q ∷ []) → HoldsEnd held q → PutsLines t u (map (λ r. Kept r) (option_to_list held))
    → bytes ≡ runs_length (map (taken_on run) (take (last - 1) (drop 1 others))) → ((text : List ℕ) → length text ≡ bytes → Puts u v text)
    → Joins before (Some w) s v (filter_map (meet run) others)
counted_joins run others last d e q w before held s t u v bytes two is are apart all first then joins ends put long counts =
    let o = slice_index_or others 0 d in
    let l = slice_index_or others last e in
    let mid = take (last - 1) (drop 1 others) in
    let split : o ∷ (mid ++ l ∷ []) ≡ others = first_and_last others last d e two is in
    subst (λ k. Joins before (Some k) s v (filter_map (meet run) others)) (sym then)
    (joins_same before (Some (taken_on run l)) s v (map (taken_on run) (o ∷ (mid ++ l ∷ []))) (filter_map (meet run) others)
    (ap (map (taken_on run)) split ∙ sym (met_inside run others are.short all))
    (inside_joins run o mid l before held s t u v (subst (λ k. Joins before held s t (k ∷ [])) first joins) (subst (HoldsEnd held) first ends) put
    (lines_counted u v (map (λ r. Kept r) (map (taken_on run) mid)) bytes counts long)
    (subst Apart (sym split) apart) (subst (AllByRecursion (Inside run)) (sym split) all)))

pub wide_joins : (run : Run) (others : List Run) (n : ℕ) (d : Run) (a b c e : Option Run) (s t u v : Counted) → 0 < n → n ≤ length others
    → Joins a b s t (option_to_list (meet run (slice_index_or others 0 d))) → Joins b c t u (filter_map (meet run) (take (n - 1) (drop 1 others)))
    → Joins c e u v (filter_map (meet run) (take (length others - n) (drop n others))) → Joins a e s v (filter_map (meet run) others)
wide_joins run others n d a b c e s t u v some le first mid more =
    joins_same a e s v _ _ (meets_split run others n d some le)
    (joins_then a b e s t v _ _ first (joins_then b c e t u v _ _ mid more))

-- ---- the run of all offsets

abbrev pub all_kept : Run
all_kept = record { old = 0; new = 0; length = 2147483647 }

pub kept_inside : (runs : List Run) → AllByRecursion IsShort runs → AllByRecursion (Inside all_kept) runs
kept_inside [] all = tt
kept_inside (run ∷ runs) all = (record { begins = omega arith; ends = omega (arith, all.0.1) }, kept_inside runs all.1)

pub kept_same : (runs : List Run) → map (taken_on all_kept) runs ≡ runs
kept_same [] = refl
kept_same (run ∷ runs) = ap (λ r. r ∷ map (taken_on all_kept) runs) (run_same (taken_on all_kept run) run (omega arith) refl refl)
    ∙ ap (λ l. run ∷ l) (kept_same runs)

pub plain_counted : (runs : List Run) (last : ℕ) (d : Run) (s t u : Counted) (bytes : ℕ) → last + 1 ≡ length runs
    → bytes ≡ runs_length (map (taken_on all_kept) (take last runs)) → ((text : List ℕ) → length text ≡ bytes → Puts s t text)
    → Puts t u (ended (line_text (Kept (slice_index_or runs last d)))) → PutsLines s u (map (λ r. Kept r) runs)
plain_counted runs last d s t u bytes is long counts put =
    says_same s u (map (λ r. Kept r) (take last runs) ++ Kept (slice_index_or runs last d) ∷ []) (map (λ r. Kept r) runs)
    (sym (map-append (λ r. Kept r) (take last runs) (slice_index_or runs last d ∷ [])) ∙ ap (map (λ r. Kept r)) (last_of runs last d is))
    (says_then s t u (map (λ r. Kept r) (take last runs)) (Kept (slice_index_or runs last d) ∷ [])
    (lines_counted s t (map (λ r. Kept r) (take last runs)) bytes counts (long ∙ ap runs_length (kept_same (take last runs))))
    (says_one t u (Kept (slice_index_or runs last d)) put))
