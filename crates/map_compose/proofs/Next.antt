-- The next image of the next image.
use Rattle.std.proofs.Common.{◌≡◌, ℕ, ◌<◌, ◌≤◌, ◌++◌, ◌≢◌, ◌⊎◌, List, Option, Some, None, [], ◌∷◌, refl, sym, ◌∙◌, ap, arith, inl, inr, subst}
use Rattle.std.proofs.lemmas.Bool.{cases_lt, lt-ltb}
use Rattle.ppdb_base.specs.{declared.offsets.Run.{Run}, Offsets.{Offsets, every, gone, lined, Moves, Rise, RiseFrom, Kept, Stops, IsNextIn, stop_runs, old_size}}
use Rattle.ppdb_base.{specs.Offsets.{moved, end_of, new_end_of}, proofs.Moved.{moves_left, moves_right, moved_is, moved_kept, has_next, kept_below}}
use Rattle.ppdb_base.proofs.Stops.{is_next, moves_rise, moves_same}
use Rattle.map_compose.specs.{Runs.{met, longest}, Composition.{NextComposes, Follows}, Composed.{composed, composed_runs, sized}, Sizes.{SizesAgree}}
use Rattle.map_compose.proofs.{Meeting.{runs_compose, moves_split}, Rising.{size_run, met_rises, longest_rises}, Equations.{composed_composes, offsets_are}}
use Rattle.map_compose.proofs.{Equations.{first_offsets, second_are}, Lined.{line_fits, runs_by}, Readable.{composed_is_readable, offsets_rise, met_all, all_met}}
use Rattle.ppdb_maps.{specs.Map.{Map, MethodLine, method_line, offsets_in}, specs.Readable.{IsReadable}, proofs.Parts.{line_offsets}}

-- a stop of a line is a kept offset, or the old size
data StopIs (runs : List Run) (old new x y : ℕ) : Type 0 where
  kept : Moves runs x y → StopIs runs old new x y
  size : x ≡ old → y ≡ new → StopIs runs old new x y

stop_is : (runs : List Run) (old new x y : ℕ) → Stops (lined runs old new) x y → StopIs runs old new x y
stop_is runs old new x y s = elim (moves_split runs (size_run old new ∷ []) x y s) [
  | inl m ↦ kept m
  | inr (inl t) ↦ size (omega (arith, t.old, t.inside)) (omega (arith, t.new, t.inside))
  | inr (inr none) ↦ absurd none
]

is_stop : (runs : List Run) (old new x y : ℕ) → StopIs runs old new x y → Stops (lined runs old new) x y
is_stop runs old new x y (kept m) = moves_left runs (size_run old new ∷ []) x y m
is_stop runs old new x y (size a b) = moves_right runs (size_run old new ∷ []) x y
    (inl (record { step = 0; inside = omega arith; old = omega (arith, a); new = omega (arith, b) }))

-- the image of a kept offset of a line is below its new size
kept_new_below : (runs : List Run) (old new : ℕ) → Rise (lined runs old new) → (x y : ℕ) → Moves runs x y → y < new
kept_new_below runs old new rise x y moves = below 0 0 runs rise moves
  where
    starts : (a b : ℕ) (rs : List Run) → RiseFrom a b (rs ++ size_run old new ∷ []) → b ≤ new
    starts a b [] rise = rise.2
    starts a b (r ∷ rs) rise = omega (arith, rise.2, starts (end_of r) (new_end_of r) rs rise.3)

    below : (a b : ℕ) (rs : List Run) → RiseFrom a b (rs ++ size_run old new ∷ []) → Moves rs x y → y < new
    below a b [] rise m = absurd m
    below a b (r ∷ rs) rise (inl t) = omega (arith, t.new, t.inside, starts (end_of r) (new_end_of r) rs rise.3)
    below a b (r ∷ rs) rise (inr m) = below (end_of r) (new_end_of r) rs rise.3 m

record StopsOn (firsts seconds : List Run) (old middle new x z : ℕ) : Type 0 where
  y : ℕ
  first : Stops (lined firsts old middle) x y
  second : Stops (lined seconds middle new) y z

stops_on : (firsts seconds : List Run) (old middle new x z : ℕ) → Stops (lined (longest (met firsts seconds)) old new) x z
    → StopsOn firsts seconds old middle new x z
stops_on firsts seconds old middle new x z s = of (stop_is (longest (met firsts seconds)) old new x z s)
  where
    of : StopIs (longest (met firsts seconds)) old new x z → StopsOn firsts seconds old middle new x z
    of (kept m) =
        let on = runs_compose.met_moves firsts seconds x z (runs_compose.longest_moves (met firsts seconds) x z m) in
        record { y = on.y; first = is_stop firsts old middle x on.y (kept on.first); second = is_stop seconds middle new on.y z (kept on.second) }
    of (size a b) = record { y = middle; first = is_stop firsts old middle x middle (size a refl); second = is_stop seconds middle new middle z (size refl b) }

on_stops : (firsts seconds : List Run) (old middle new x y z : ℕ) → Rise (lined firsts old middle) → Rise (lined seconds middle new)
    → Stops (lined firsts old middle) x y → Stops (lined seconds middle new) y z → Stops (lined (longest (met firsts seconds)) old new) x z
on_stops firsts seconds old middle new x y z rise also a b = of (stop_is firsts old middle x y a) (stop_is seconds middle new y z b)
  where
    of : StopIs firsts old middle x y → StopIs seconds middle new y z → Stops (lined (longest (met firsts seconds)) old new) x z
    of (kept m) (kept n) = is_stop (longest (met firsts seconds)) old new x z
        (kept (runs_compose.moves_longest (met firsts seconds) x z (runs_compose.moves_met firsts seconds x z (record { y = y; first = m; second = n }))))
    of (kept m) (size p q) = absurd (omega (arith, p, kept_new_below firsts old middle rise x y m))
    of (size p q) (kept n) = absurd (omega (arith, q, kept_below seconds middle new also y z n))
    of (size p q) (size t u) = is_stop (longest (met firsts seconds)) old new x z (size p u)

-- stops that rise on one side rise on the other
stops_back : (o : Offsets) → Rise o → (x y u v : ℕ) → Stops o x y → Stops o u v → y ≤ v → x ≤ u
stops_back o rise x y u v a b le = elim (cases_lt u x) [
  | inr fine ↦ fine
  | inl less ↦ absurd (omega (arith, le, moves_rise 0 0 (stop_runs o) rise u v x y b a less))
]

stops_on_up : (o : Offsets) → Rise o → (x y u v : ℕ) → Stops o x y → Stops o u v → x ≤ u → y ≤ v
stops_on_up o rise x y u v a b le = elim (cases_lt x u) [
  | inl less ↦ omega (arith, moves_rise 0 0 (stop_runs o) rise x y u v a b less)
  | inr ge ↦
      let same : u ≡ x = omega (arith, le, ge) in
      let e : y ≡ v = moves_same 0 0 (stop_runs o) rise x y v a (subst (λ n. Moves (stop_runs o) n v) same b) in
      omega (arith, e)
]

abbrev Tight : List Run → List Run → ℕ → ℕ → ℕ → Type 0
Tight firsts seconds old middle new = (y z : ℕ) → Kept (lined seconds middle new) y z → (w : ℕ) × Kept (lined firsts old middle) w y

tight_stops : (firsts seconds : List Run) (old middle new : ℕ) → Tight firsts seconds old middle new
    → (y z : ℕ) → Stops (lined seconds middle new) y z → (w : ℕ) × Stops (lined firsts old middle) w y
tight_stops firsts seconds old middle new tight y z s = of (stop_is seconds middle new y z s)
  where
    of : StopIs seconds middle new y z → (w : ℕ) × Stops (lined firsts old middle) w y
    of (kept m) = let w = tight y z m in (w.0, is_stop firsts old middle w.0 y (kept w.1))
    of (size a b) = (old, is_stop firsts old middle old y (size refl a))

live : (runs : List Run) (old new : ℕ) → lined runs old new ≢ gone
live runs old new e = absurd (cc)

next_composed : (firsts seconds : List Run) (old middle new x : ℕ) → Rise (lined firsts old middle) → Rise (lined seconds middle new)
    → Rise (lined (longest (met firsts seconds)) old new)
    → Tight firsts seconds old middle new → x ≤ old
    → moved (lined seconds middle new) (moved (lined firsts old middle) x) ≡ moved (lined (longest (met firsts seconds)) old new) x
next_composed firsts seconds old middle new x rise also all tight le =
    let o = lined firsts old middle in
    let p = lined seconds middle new in
    let one = has_next o rise (live firsts old middle) x le in
    let first : IsNextIn (stop_runs o) x one.0 = is_next 0 0 (stop_runs o) rise x one.0 one.1 in
    let within : one.0 ≤ middle = top (stop_is firsts old middle first.stop one.0 first.stops) in
    let two = has_next p also (live seconds middle new) one.0 within in
    let second : IsNextIn (stop_runs p) one.0 two.0 = is_next 0 0 (stop_runs p) also one.0 two.0 two.1 in
    let back = tight_stops firsts seconds old middle new tight second.stop two.0 second.stops in
    let both : IsNextIn (stop_runs (lined (longest (met firsts seconds)) old new)) x two.0 = record {
      stop = back.0;
      stops = on_stops firsts seconds old middle new back.0 second.stop two.0 rise also back.1 second.stops;
      after = omega (arith, first.after, stops_back o rise first.stop one.0 back.0 second.stop first.stops back.1 second.after);
      least = λ other image moves from.
          let on = stops_on firsts seconds old middle new other image moves in
          let above : one.0 ≤ on.y = stops_on_up o rise first.stop one.0 other on.y first.stops on.first (first.least other on.y on.first from) in
          stops_back o rise back.0 second.stop other on.y back.1 on.first (second.least on.y image on.second above);
    } in
    ap (moved p) (moved_is o rise x one.0 first) ∙ moved_is p also one.0 two.0 second
    ∙ sym (moved_is (lined (longest (met firsts seconds)) old new) all x two.0 both)
  where
    top : {w y : ℕ} → StopIs firsts old middle w y → y ≤ middle
    top {w} {y} (kept m) = omega (arith, kept_new_below firsts old middle rise w y m)
    top (size a b) = omega (arith, b)

-- at an offset that both keep
next_kept : (f s : Map) (method image x z : ℕ) → IsReadable f → IsReadable s → SizesAgree f s → Follows f s method image
    → Kept (offsets_in (composed f s) method) x z
    → moved (offsets_in s image) (moved (offsets_in f method) x) ≡ moved (offsets_in (composed f s) method) x
next_kept f s method image x z f_readable s_readable agree follows both =
    let on = ((composed_composes f s f_readable s_readable).kept method image x z follows).0 both in
    ap (moved (offsets_in s image)) (moved_kept (offsets_in f method) (offsets_rise f f_readable method) x on.y on.first)
    ∙ moved_kept (offsets_in s image) (offsets_rise s s_readable image) on.y z on.second
    ∙ sym (moved_kept (offsets_in (composed f s) method)
    (offsets_rise (composed f s) (composed_is_readable f s f_readable s_readable agree) method) x z both)

-- ---- where one of the two has no line

-- without a line each offset is its own next image
every_stays : (x : ℕ) → x ≤ 4294967295 → moved every x ≡ x
every_stays x le = rw (lt-ltb x 4294967296 (omega (arith, le))) (omega arith)

-- the longest runs have the same stops
longest_stops : (runs : List Run) (old new x y : ℕ) → Stops (lined runs old new) x y → Stops (lined (longest runs) old new) x y
longest_stops runs old new x y s = of (stop_is runs old new x y s)
  where
    of : StopIs runs old new x y → Stops (lined (longest runs) old new) x y
    of (kept m) = is_stop (longest runs) old new x y (kept (runs_compose.moves_longest runs x y m))
    of (size a b) = is_stop (longest runs) old new x y (size a b)

stops_longest : (runs : List Run) (old new x y : ℕ) → Stops (lined (longest runs) old new) x y → Stops (lined runs old new) x y
stops_longest runs old new x y s = of (stop_is (longest runs) old new x y s)
  where
    of : StopIs (longest runs) old new x y → Stops (lined runs old new) x y
    of (kept m) = is_stop runs old new x y (kept (runs_compose.longest_moves runs x y m))
    of (size a b) = is_stop runs old new x y (size a b)

longest_next : (runs : List Run) (old new x : ℕ) → Rise (lined runs old new) → x ≤ old → moved (lined runs old new) x ≡ moved (lined (longest runs) old new) x
longest_next runs old new x rise le =
    let one = has_next (lined runs old new) rise (live runs old new) x le in
    let next : IsNextIn (stop_runs (lined runs old new)) x one.0 = is_next 0 0 (stop_runs (lined runs old new)) rise x one.0 one.1 in
    moved_is (lined runs old new) rise x one.0 next
    ∙ sym (moved_is (lined (longest runs) old new) (longest_rises 0 0 runs (size_run old new ∷ []) rise) x one.0 (record {
      stop = next.stop;
      stops = longest_stops runs old new next.stop one.0 next.stops;
      after = next.after;
      least = λ other image moves from. next.least other image (stops_longest runs old new other image moves) from;
    }))

-- the next image of an offset is within the new size
next_within : (runs : List Run) (old new x : ℕ) → Rise (lined runs old new) → x ≤ old → moved (lined runs old new) x ≤ new
next_within runs old new x rise le =
    let one = has_next (lined runs old new) rise (live runs old new) x le in
    let next : IsNextIn (stop_runs (lined runs old new)) x one.0 = is_next 0 0 (stop_runs (lined runs old new)) rise x one.0 one.1 in
    let is = moved_is (lined runs old new) rise x one.0 next in
    omega (arith, is, of (stop_is runs old new next.stop one.0 next.stops))
  where
    of : {w y : ℕ} → StopIs runs old new w y → y ≤ new
    of {w} {y} (kept m) = omega (arith, kept_new_below runs old new rise w y m)
    of (size a b) = omega (arith, b)

module _ (f s : Map) (m image : ℕ) (f_readable : IsReadable f) (s_readable : IsReadable s) (agree : SizesAgree f s) (follows : Follows f s m image) where
  abbrev both_line : Option MethodLine → Option MethodLine → Offsets
  both_line a b = line_offsets (sized m (composed_runs f s m) a b)

  by_lines : (a b : Option MethodLine) (x : ℕ) → method_line f m ≡ a → method_line s image ≡ b → (a ≡ None) ⊎ (b ≡ None) → x ≤ old_size (both_line a b)
      → moved (line_offsets b) (moved (line_offsets a) x) ≡ moved (both_line a b) x
  by_lines None None x is also one le = ap (moved every) (every_stays x le)
  by_lines None (Some b) x is also one le =
      let fits = line_fits f s m image f_readable s_readable agree follows s image b s_readable also in
      let runs : composed_runs f s m ≡ longest b.runs =
      runs_by f s m image f_readable s_readable agree follows None (Some b) is also
      ∙ ap longest (all_met 0 0 b.old_size b.new_size b.runs (omega (arith, fits.1)) fits.3) in
      ap (moved (lined b.runs b.old_size b.new_size)) (every_stays x (omega (arith, le, fits.1)))
      ∙ longest_next b.runs b.old_size b.new_size x fits.3 le ∙ sym (ap (λ rs. moved (lined rs b.old_size b.new_size) x) runs)
  by_lines (Some a) None x is also one le =
      let fits = line_fits f s m image f_readable s_readable agree follows f m a f_readable is in
      let runs : composed_runs f s m ≡ longest a.runs =
      runs_by f s m image f_readable s_readable agree follows (Some a) None is also
      ∙ ap longest (met_all 0 0 a.old_size a.new_size a.runs (omega (arith, fits.2)) fits.3) in
      every_stays (moved (lined a.runs a.old_size a.new_size) x) (omega (arith, next_within a.runs a.old_size a.new_size x fits.3 le, fits.2))
      ∙ longest_next a.runs a.old_size a.new_size x fits.3 le ∙ sym (ap (λ rs. moved (lined rs a.old_size a.new_size) x) runs)
  by_lines (Some a) (Some b) x is also (inl one) le = absurd (cc)
  by_lines (Some a) (Some b) x is also (inr one) le = absurd (cc)

  next_alone : (x : ℕ) → (method_line f m ≡ None) ⊎ (method_line s image ≡ None) → x ≤ old_size (offsets_in (composed f s) m)
      → moved (offsets_in s image) (moved (offsets_in f m) x) ≡ moved (offsets_in (composed f s) m) x
  next_alone x one le =
      ap (λ o. moved (offsets_in s image) (moved o x)) (first_offsets f s m image follows)
      ∙ ap (λ o. moved o (moved (line_offsets (method_line f m)) x)) (second_are f s m image follows)
      ∙ by_lines (method_line f m) (method_line s image) x refl refl one (subst (λ o. x ≤ old_size o) (offsets_are f s m image follows) le)
      ∙ sym (ap (λ o. moved o x) (offsets_are f s m image follows))

pub next_composes : NextComposes
next_composes = record {
  tight = λ firsts seconds old middle new x rise also tight le.
      next_composed firsts seconds old middle new x rise also (met_rises firsts seconds old middle new rise also) tight le;
  kept = next_kept;
  alone = λ f s m image x f_readable s_readable agree follows one le. next_alone f s m image f_readable s_readable agree follows x one le;
}
