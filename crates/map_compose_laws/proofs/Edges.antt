-- Where the second map keeps nothing but images of the first, edges compose.
use Rattle.std.proofs.Common.{◌≡◌, ◌≢◌, ℕ, ◌≤◌, ◌⊎◌, inl, inr, true, false, Option, Some, None, List, [], ◌∷◌, refl, sym, ◌∙◌, ap, subst, cond, Bool, arith}
use Rattle.std.{specs.Prelude.{is_some, nat_eq}, specs.List.{AllByRecursion, find}, specs.Option.{option_and_then}, proofs.lemmas.Bool.{cases_lt}}
use Rattle.ppdb_base.specs.Offsets.{Kept, Rise, kept_runs, lined, moved, old_size}
use Rattle.ppdb_maps.{specs.Map.{Map, MethodLine, method_line, offsets_in, row_within}, specs.Readable.{IsReadable, IsLineOf}, proofs.Parts.{line_offsets}}
use Rattle.map_compose.specs.{Composed.{composed, composed_runs, of_image, sized}, Composition.{Follows}, Runs.{met, longest}, Sizes.{SizesAgree}}
use Rattle.map_compose.proofs.{Equations.{first_offsets, offsets_are, runs_are, second_are}, Next.{next_composes}}
use Rattle.map_compose_laws.specs.Images.{EdgeComposes, EdgesAreComposed, KeepsImages}

-- a line of a readable map rises within its sizes
line_rises : (m : Map) (k : ℕ) (lines : List MethodLine) → AllByRecursion (IsLineOf m) lines → (line : MethodLine)
    → find (λ l. nat_eq l.method k) lines ≡ Some line → Rise (lined line.runs line.old_size line.new_size)
line_rises m k [] all line is = absurd cc
line_rises m k (l ∷ ls) all line is = of (nat_eq l.method k) is (line_rises m k ls all.1 line)
  where
    of : (b : Bool) → cond b (Some l) (find (λ l. nat_eq l.method k) ls) ≡ Some line
        → (find (λ l. nat_eq l.method k) ls ≡ Some line → Rise (lined line.runs line.old_size line.new_size))
        → Rise (lined line.runs line.old_size line.new_size)
    of true is rest =
        let same : l ≡ line = cc in
        subst (λ (x : MethodLine). Rise (lined x.runs x.old_size x.new_size)) same all.0.3
    of false is rest = rest is

either : (j k : ℕ) → (j ≡ k) ⊎ (j ≢ k)
either j k = elim (cases_lt j k) [
  | inl less ↦ inr (λ e. omega (arith, e))
  | inr ge ↦ elim (cases_lt k j) [ inl more ↦ inr (λ e. omega (arith, e)) | inr le ↦ inl (omega arith) ]
]

module _ (f s : Map) (method image : ℕ) (first : IsReadable f) (second : IsReadable s) (agree : SizesAgree f s) (follows : Follows f s method image)
    (tight : KeepsImages f s method image) (x : ℕ) (le : x ≤ old_size (offsets_in (composed f s) method)) where
  sizes_agree : (a b : MethodLine) → method_line f method ≡ Some a → method_line s image ≡ Some b → a.new_size ≡ b.old_size
  sizes_agree a b is also = elim (either a.new_size b.old_size) [
    | inl same ↦ same
    | inr apart ↦ absurd (agree method a.new_size b.old_size (record {
      a = a;
      b = b;
      there = ap (λ o. is_some (option_and_then (row_within s 0x06) o)) follows.first ∙ follows.second;
      before = is;
      after = ap (of_image None (method_line s)) follows.first ∙ also;
      sizes = (refl, refl, apart);
    }))
  ]

  both_lines : (a b : MethodLine) → method_line f method ≡ Some a → method_line s image ≡ Some b → EdgeComposes f s method image x
  both_lines a b is also =
      let from : offsets_in f method ≡ lined a.runs a.old_size a.new_size = first_offsets f s method image follows ∙ ap line_offsets is in
      let on : offsets_in s image ≡ lined b.runs b.old_size b.new_size = second_are f s method image follows ∙ ap line_offsets also in
      let middle = sizes_agree a b is also in
      let joined : offsets_in s image ≡ lined b.runs a.new_size b.new_size = on ∙ ap (λ n. lined b.runs n b.new_size) (sym middle) in
      let runs : composed_runs f s method ≡ longest (met a.runs b.runs) =
      runs_are f s method image follows
      ∙ (ap (λ o. longest (met (kept_runs o) (kept_runs (offsets_in s image)))) from ∙ ap (λ o. longest (met a.runs (kept_runs o))) on) in
      let whole : offsets_in (composed f s) method ≡ lined (longest (met a.runs b.runs)) a.old_size b.new_size =
      offsets_are f s method image follows
      ∙ (ap (λ l. line_offsets (sized method (composed_runs f s method) l (method_line s image))) is
      ∙ (ap (λ l. line_offsets (sized method (composed_runs f s method) (Some a) l)) also
      ∙ ap (λ rs. lined rs a.old_size b.new_size) runs)) in
      let rise : Rise (lined b.runs a.new_size b.new_size) =
      subst (λ n. Rise (lined b.runs n b.new_size)) (sym middle) (line_rises s image s.methods second.methods b also) in
      let images : (y z : ℕ) → Kept (lined b.runs a.new_size b.new_size) y z → (w : ℕ) × Kept (lined a.runs a.old_size a.new_size) w y =
      subst (λ o. (y z : ℕ) → Kept o y z → (w : ℕ) × Kept (lined a.runs a.old_size a.new_size) w y) joined
      (subst (λ o. (y z : ℕ) → Kept (offsets_in s image) y z → (w : ℕ) × Kept o w y) from (tight a b is also)) in
      ap (λ o. moved o (moved (offsets_in f method) x)) joined
      ∙ (ap (λ o. moved (lined b.runs a.new_size b.new_size) (moved o x)) from
      ∙ (next_composes.tight a.runs b.runs a.old_size a.new_size b.new_size x (line_rises f method f.methods first.methods a is) rise images
      (subst (λ o. x ≤ old_size o) whole le)
      ∙ sym (ap (λ o. moved o x) whole)))

  by_lines : (a b : Option MethodLine) → method_line f method ≡ a → method_line s image ≡ b → EdgeComposes f s method image x
  by_lines None b is also = next_composes.alone f s method image x first second agree follows (inl is) le
  by_lines (Some a) None is also = next_composes.alone f s method image x first second agree follows (inr also) le
  by_lines (Some a) (Some b) is also = both_lines a b is also

  pub edge : EdgeComposes f s method image x
  edge = by_lines (method_line f method) (method_line s image) refl refl

pub edges_compose : EdgesAreComposed
edges_compose = λ f s method image x first second agree follows tight le. edge f s method image first second agree follows tight x le
