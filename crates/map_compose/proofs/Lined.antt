-- The line of a method that is there after both maps.
use Rattle.std.proofs.Common.{ℕ, ◌≡◌, ◌*◌, ◌^◌, ◌≤◌, cond, List, [], ◌∷◌, Option, Some, None, refl, sym, ap, ◌∙◌, arith, subst, map, length, length-append, inl, inr}
use Rattle.std.{proofs.lemmas.List.{length-map}, specs.List.{AllByRecursion, flat_map}, specs.Prelude.{nat_eq}, specs.Option.{option_map}}
use Rattle.ppdb_base.{specs.declared.offsets.Run.{Run}, specs.Offsets.{lined, Rise, kept_runs}, proofs.Moved.{rise_prefix}}
use Rattle.ppdb_maps.specs.{declared.line.Line.TheVariants.{Method, Kept}, Map.{Map, MethodLine, method_line, offsets_in}, Readable.{IsReadable, IsLineOf}}
use Rattle.ppdb_maps.{specs.Says.{sizes_of}, proofs.Parts.{line_offsets}, proofs.OneMap.{same_or_apart}}
use Rattle.map_compose.specs.{Runs.{met, longest}, Composed.{composed_line, composed_runs, second_line, sized, of_image}, Composition.{Follows, sizes_then}}
use Rattle.map_compose.specs.{declared.joined.JoinedRuns.{JoinedRuns}, declared.part.Part.TheVariants.{Methods}, Joining.{AreRuns, AreJoinedOf, runs_of, runs_after}}
use Rattle.map_compose.{specs.Laws.{Apart}, specs.Says.{lined_says, line_of_both}, specs.Sizes.{SizesAgree}, proofs.Equations.{there, first_offsets, second_are}}
use Rattle.map_compose.proofs.{Equations.{runs_are}, Gathering.{few_runs}, Meeting.{runs_compose}, Merging.{few_own}, Places.{long, line_short, no_runs}}
use Rattle.map_compose.proofs.{Readable.{found_holds, met_all, all_met}, Rising.{met_rises, longest_rises, longest_apart, one_longest, size_run}}

-- ---- longest runs

long_rises : (m : Map) (line : MethodLine) → IsLineOf m line → Rise (lined (longest line.runs) line.old_size line.new_size)
long_rises m line fits = longest_rises 0 0 line.runs (size_run line.old_size line.new_size ∷ []) fits.3

pub long_runs : (m : Map) (line : MethodLine) → IsLineOf m line → AreRuns (longest line.runs)
long_runs m line fits = record {
  rise = rise_prefix 0 0 (longest line.runs) (size_run line.old_size line.new_size ∷ []) (long_rises m line fits);
  short = line_short 0 0 line.old_size line.new_size (longest line.runs) fits.1 fits.2 (long_rises m line fits);
}

pub others_run : (m : Map) (method : ℕ) → IsReadable m → AreRuns (runs_of (option_map long (method_line m method)))
others_run m method readable = of (method_line m method) refl
  where
    of : (o : Option MethodLine) → method_line m method ≡ o → AreRuns (runs_of (option_map long o))
    of None is = no_runs
    of (Some line) is = long_runs m line (found_holds (IsLineOf m) (λ (l : MethodLine). nat_eq l.method method) m.methods line readable.methods is)

pub others_apart : (m : Map) (method : ℕ) → Apart (runs_of (option_map long (method_line m method)))
others_apart m method = of (method_line m method)
  where
    of : (o : Option MethodLine) → Apart (runs_of (option_map long o))
    of None = tt
    of (Some line) = longest_apart line.runs

many_runs : (m : Map) (lines : List MethodLine) → AllByRecursion (IsLineOf m) lines → length (flat_map long lines) ≤ length lines * 2147483647
many_runs m [] all = omega arith
many_runs m (line ∷ lines) all =
    let few = few_runs (long line) (long_runs m line all.0) in
    let join = length-append (long line) (flat_map long lines) in
    let rest = many_runs m lines all.1 in
    omega (arith, few, join, rest)

pub few_joined : (joined : JoinedRuns) (m : Map) → IsReadable m → AreJoinedOf joined m → length joined.runs.items ≤ 2 ^ 56
few_joined joined m readable are =
    let all = many_runs m m.methods readable.methods in
    let few = few_own Methods m readable in
    let same = length-map m.methods (λ (l : MethodLine). l.method) in
    let is = ap length are.runs in
    omega (arith, all, few, same, is)

-- what meets the longest runs is as long as what meets the runs
pub longest_met : (rs qs : List Run) (old middle new : ℕ) → Rise (lined rs old middle) → Rise (lined qs middle new)
    → longest (met rs (longest qs)) ≡ longest (met rs qs)
longest_met rs qs old middle new rise also =
    let more : Rise (lined (longest qs) middle new) = longest_rises 0 0 qs (size_run middle new ∷ []) also in
    one_longest 0 0 (longest (met rs (longest qs))) (longest (met rs qs))
    (rise_prefix 0 0 (longest (met rs (longest qs))) (size_run old new ∷ []) (met_rises rs (longest qs) old middle new rise more))
    (rise_prefix 0 0 (longest (met rs qs)) (size_run old new ∷ []) (met_rises rs qs old middle new rise also))
    (longest_apart (met rs (longest qs))) (longest_apart (met rs qs))
    (λ x z. (
      λ moves.
          let on = runs_compose.met_moves rs (longest qs) x z (runs_compose.longest_moves (met rs (longest qs)) x z moves) in
          runs_compose.moves_longest (met rs qs) x z
          (runs_compose.moves_met rs qs x z (record { y = on.y; first = on.first; second = runs_compose.longest_moves qs on.y z on.second })),
      λ moves.
          let on = runs_compose.met_moves rs qs x z (runs_compose.longest_moves (met rs qs) x z moves) in
          runs_compose.moves_longest (met rs (longest qs)) x z
          (runs_compose.moves_met rs (longest qs) x z (record { y = on.y; first = on.first; second = runs_compose.moves_longest qs on.y z on.second })),
    ))

-- ---- the line

module _ (f s : Map) (m image : ℕ) (f_readable : IsReadable f) (s_readable : IsReadable s) (agree : SizesAgree f s) (follows : Follows f s m image) where
  pub line_fits : (k : Map) (n : ℕ) (line : MethodLine) → IsReadable k → method_line k n ≡ Some line → IsLineOf k line
  line_fits k n line readable is = found_holds (IsLineOf k) (λ (l : MethodLine). nat_eq l.method n) k.methods line readable.methods is

  second_is : second_line f s m ≡ method_line s image
  second_is = ap (of_image None (method_line s)) follows.first

  pub runs_by : (a b : Option MethodLine) → method_line f m ≡ a → method_line s image ≡ b
      → composed_runs f s m ≡ longest (met (kept_runs (line_offsets a)) (kept_runs (line_offsets b)))
  runs_by a b is also =
      runs_are f s m image follows
      ∙ ap (λ o. longest (met (kept_runs o) (kept_runs (offsets_in s image)))) (first_offsets f s m image follows ∙ ap line_offsets is)
      ∙ ap (λ o. longest (met (kept_runs (line_offsets a)) (kept_runs o))) (second_are f s m image follows ∙ ap line_offsets also)

  abbrev line_with : ℕ → ℕ → List Run → MethodLine
  line_with old new runs = record { method = m; old_size = old; new_size = new; runs = runs }

  by_lines : (a b : Option MethodLine) (old new : ℕ) → method_line f m ≡ a → method_line s image ≡ b
      → sizes_then (sizes_of (line_offsets a)) (sizes_of (line_offsets b)) ≡ Some (old, new)
      → sized m (composed_runs f s m) a b ≡ Some (line_with old new (runs_after (line_offsets a) (option_map long b)))
  by_lines None None old new is also sizes = absurd (cc)
  by_lines (Some a) None old new is also sizes =
      let fits = line_fits f m a f_readable is in
      let runs : composed_runs f s m ≡ longest a.runs = runs_by (Some a) None is also
      ∙ ap longest (met_all 0 0 a.old_size a.new_size a.runs (omega (arith, fits.2)) fits.3) in
      let pair : (a.old_size, a.new_size) ≡ (old, new) = some_same sizes in
      ap (λ rs. Some (line_with a.old_size a.new_size rs)) runs ∙ ap (λ (p : ℕ × ℕ). Some (line_with p.0 p.1 (longest a.runs))) pair
    where
      some_same : {A : Type 0} {x y : A} → Some x ≡ Some y → x ≡ y
      some_same e = cc
  by_lines None (Some b) old new is also sizes =
      let fits = line_fits s image b s_readable also in
      let runs : composed_runs f s m ≡ longest b.runs = runs_by None (Some b) is also
      ∙ ap longest (all_met 0 0 b.old_size b.new_size b.runs (omega (arith, fits.1)) fits.3) in
      let pair : (b.old_size, b.new_size) ≡ (old, new) = some_same sizes in
      ap (λ rs. Some (line_with b.old_size b.new_size rs)) runs ∙ ap (λ (p : ℕ × ℕ). Some (line_with p.0 p.1 (longest b.runs))) pair
    where
      some_same : {A : Type 0} {x y : A} → Some x ≡ Some y → x ≡ y
      some_same e = cc
  by_lines (Some a) (Some b) old new is also sizes =
      let fits = line_fits f m a f_readable is in
      let more = line_fits s image b s_readable also in
      let same : a.new_size ≡ b.old_size = elim (same_or_apart a.new_size b.old_size) [
        | inl eq ↦ eq
        | inr differ ↦ absurd (agree m a.new_size b.old_size
            (record { a = a; b = b; there = there f s m image follows; before = is; after = second_is ∙ also; sizes = (refl, refl, differ) }))
      ] in
      let runs : composed_runs f s m ≡ longest (met a.runs (longest b.runs)) =
      runs_by (Some a) (Some b) is also
      ∙ sym (longest_met a.runs b.runs a.old_size b.old_size b.new_size (subst (λ n. Rise (lined a.runs a.old_size n)) same fits.3) more.3) in
      let pair : (a.old_size, b.new_size) ≡ (old, new) = some_same sizes in
      ap (λ rs. Some (line_with a.old_size b.new_size rs)) runs ∙ ap (λ (p : ℕ × ℕ). Some (line_with p.0 p.1 (longest (met a.runs (longest b.runs))))) pair
    where
      some_same : {A : Type 0} {x y : A} → Some x ≡ Some y → x ≡ y
      some_same e = cc

  pub line_is : (old new : ℕ) → sizes_then (sizes_of (offsets_in f m)) (sizes_of (offsets_in s image)) ≡ Some (old, new)
      → line_of_both f s m ≡ Method m old new ∷ map (λ r. Kept r) (runs_after (offsets_in f m) (option_map long (method_line s image)))
  line_is old new sizes =
      let by_sizes : sizes_then (sizes_of (line_offsets (method_line f m))) (sizes_of (line_offsets (method_line s image))) ≡ Some (old, new) =
      sym (ap (λ o. sizes_then (sizes_of o) (sizes_of (offsets_in s image))) (first_offsets f s m image follows)
      ∙ ap (λ o. sizes_then (sizes_of (line_offsets (method_line f m))) (sizes_of o)) (second_are f s m image follows)) ∙ sizes in
      let line : composed_line f s m ≡ Some (line_with old new (runs_after (line_offsets (method_line f m)) (option_map long (method_line s image)))) =
      ap (λ b. cond b (sized m (composed_runs f s m) (method_line f m) (second_line f s m)) None) (there f s m image follows)
      ∙ ap (sized m (composed_runs f s m) (method_line f m)) second_is
      ∙ by_lines (method_line f m) (method_line s image) old new refl refl by_sizes in
      ap lined_says line ∙ ap (λ o. Method m old new ∷ map (λ r. Kept r) (runs_after o (option_map long (method_line s image))))
      (sym (first_offsets f s m image follows))
