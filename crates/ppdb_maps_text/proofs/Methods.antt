-- The methods of a map's text are read with their runs.
use Rattle.std.{proofs.Common.{ℕ, ◌≡◌, ◌<◌, ◌≤◌, ◌++◌, true, false, List, [], ◌∷◌, Option, refl, sym, ap, ◌∙◌, subst, arith, inl, inr, map}, specs.Prelude.{nat_eq}}
use Rattle.std.specs.{Prelude.{is_some}, List.{AllByRecursion, find, flat_map}, Option.{option_map}, Ordering.{nat_cmp}}
use Rattle.std.proofs.lemmas.{Bool.{false≢true}, Cmp.{nat_cmp_total}, List.{append_assoc, append-nil}}
use Rattle.ppdb_base.specs.{declared.offsets.Run.{Run}, Offsets.{RiseFrom, end_of, new_end_of}, declared.limits.TheConstants.{MAX_OFFSET}}
use Rattle.ppdb_maps.specs.{declared.line.Line.{Line}, declared.line.Line.TheVariants.{Method, Kept}, declared.rule.Rule.{Rule}, Before.{methods_of, follows_method}}
use Rattle.ppdb_maps.specs.{Before.{with_run, drop_in}, Map.{Map, MethodLine, is_dropped}, Readable.{IsLineOf}, Rules.{Breaks, BeginsEarly, EndsBeyond, run_alone}}
use Rattle.ppdb_maps.{specs.Rules.{run_early, run_long}, proofs.OneMap.{same_number}, proofs.Refusing.{method_keeps}}
use Rattle.ppdb_maps_text.{specs.MapTexts.{version_of, line_text, method_says}, proofs.Ahead.{Ahead, not_yet, steps, not_before_of}, proofs.Got.{Got, from_three}}
use Rattle.ppdb_maps_text.proofs.{Got.{read_on}, Told.{method_told, run_told}}

-- the method's line among these
abbrev pub line_among : List MethodLine → ℕ → Option MethodLine
line_among lines method = find (λ (l : MethodLine). nat_eq l.method method) lines

abbrev pub LinesAhead : Map → List MethodLine → List MethodLine → Type 0
LinesAhead m lines ms = Ahead (λ (l : MethodLine). l.method) (λ (l : MethodLine). l) nat_eq nat_cmp (λ k. line_among lines k) ms
    (λ k. option_map (λ (l : MethodLine). l) (line_among m.methods k))

-- all methods that were read have all their runs
abbrev pub MethodsAhead : Map → List MethodLine → List Line → Type 0
MethodsAhead m ms said = LinesAhead m (methods_of said) ms

abbrev pub with_runs : MethodLine → List Run → MethodLine
with_runs l done = record { method = l.method; old_size = l.old_size; new_size = l.new_size; runs = done }

-- all but the last one, of which these runs were read
pub record Open (m : Map) (l : MethodLine) (done : List Run) (ms : List MethodLine) (said : List Line) : Type 0 where
  pub lines : List MethodLine
  pub is : methods_of said ≡ with_runs l done ∷ lines
  pub follows : follows_method said ≡ true
  pub ahead : LinesAhead m lines (l ∷ ms)

-- the sizes, as the end of the runs
abbrev sizes : ℕ → ℕ → Run
sizes old new = record { old = old; new = new; length = 1 }

-- a run that rises after others does not begin before their end
begins_late : (x y : ℕ) (done rest : List Run) (run : Run) → RiseFrom x y (done ++ run ∷ rest) → BeginsEarly run done → ⊥
begins_late x y [] rest run rise early = early
begins_late x y (q ∷ []) rest run rise early = elim early [
  | inl h ↦ (let k : end_of q ≤ run.old = rise.3.1 in omega (arith, h, k))
  | inr h ↦ (let k : new_end_of q ≤ run.new = rise.3.2 in omega (arith, h, k))
]
begins_late x y (q ∷ p ∷ ps) rest run rise early = begins_late (end_of q) (new_end_of q) (p ∷ ps) rest run rise.3 early

-- runs that rise begin before the last
rise_below : (x y : ℕ) (rs : List Run) (last : Run) → RiseFrom x y (rs ++ last ∷ []) → (x ≤ last.old) × (y ≤ last.new)
rise_below x y [] last rise = (rise.1, rise.2)
rise_below x y (q ∷ qs) last rise =
    let h : (end_of q ≤ last.old) × (new_end_of q ≤ last.new) = rise_below (end_of q) (new_end_of q) qs last rise.3 in
    let a = rise.1 in
    let b = rise.2 in
    (omega (arith, a, h.0), omega (arith, b, h.1))

-- a run that rises has offsets, and ends within the last
ends_within : (x y : ℕ) (done rest : List Run) (run last : Run) → RiseFrom x y (done ++ (run ∷ (rest ++ last ∷ [])))
    → (0 < run.length) × (end_of run ≤ last.old) × (new_end_of run ≤ last.new)
ends_within x y [] rest run last rise =
    let h : (end_of run ≤ last.old) × (new_end_of run ≤ last.new) = rise_below (end_of run) (new_end_of run) rest last rise.3 in (rise.0, h.0, h.1)
ends_within x y (q ∷ qs) rest run last rise = ends_within (end_of q) (new_end_of q) qs rest run last rise.3

first_line : (lines others : List MethodLine) (line other : MethodLine) (found : List MethodLine) → found ≡ line ∷ lines → found ≡ other ∷ others → other ≡ line
first_line lines others line other found a b = let e : line ∷ lines ≡ other ∷ others = sym a ∙ b in cc

run_keeps : (said : List Line) (run : Run) (line : MethodLine) (lines : List MethodLine) → methods_of said ≡ line ∷ lines → follows_method said ≡ true
    → (BeginsEarly run line.runs → ⊥) → (EndsBeyond run line → ⊥) → (rule : Rule) → Breaks said rule (Kept run) → ⊥
run_keeps said run line lines is follows late within rule (run_alone k) = false≢true (sym k ∙ follows)
run_keeps said run line lines is follows late within rule (run_early {line = other} {lines = others} e k) =
    late (subst (λ (l : MethodLine). BeginsEarly run l.runs) (first_line lines others line other (methods_of said) is e) k)
run_keeps said run line lines is follows late within rule (run_long {line = other} {lines = others} e k) =
    within (subst (λ (l : MethodLine). EndsBeyond run l) (first_line lines others line other (methods_of said) is e) k)

module _ (m : Map) (texts : List (List ℕ)) where
  add_method : (after : List Line) (l : MethodLine) (ms : List MethodLine) → IsLineOf m l
      → Got m texts (Method l.method l.old_size l.new_size ∷ after) [] [] [] [] [] [] [] (MethodsAhead m (l ∷ ms))
      → Got m texts after [] [] [] [] [] [] [] (Open m l [] ms)
  add_method after l ms is g =
      let new : is_some (line_among (methods_of g.said) l.method) ≡ false =
      not_yet (λ (l : MethodLine). l.method) (λ (l : MethodLine). l) nat_eq nat_cmp same_number nat_cmp_total (λ k. line_among (methods_of g.said) k) l ms
      (λ k. option_map (λ (l : MethodLine). l) (line_among m.methods k)) g.rest in
      let drop : drop_in g.said l.method ≡ false = not_before_of (λ n. drop_in g.said n) [] (λ n. is_dropped m n) g.drops l.method is.4 in
      let line : Line = Method l.method l.old_size l.new_size in
      let next = read_on (version_of m) g.prefix texts g.said after (Method l.method l.old_size l.new_size) g.read g.plain g.whole
      (method_told (version_of m) (from_three m) l.method l.old_size l.new_size is.0.0 is.0.1 is.1 is.2)
      (method_keeps g.said l.method l.old_size l.new_size new drop) in
      record {
        said = Method l.method l.old_size l.new_size ∷ g.said;
        prefix = g.prefix ++ line_text (Method l.method l.old_size l.new_size) ∷ [];
        read = next.0;
        plain = next.1;
        whole = next.2;
        counts = g.counts;
        images = g.images;
        same = g.same;
        drops = g.drops;
        slotted = g.slotted;
        slots = g.slots;
        signatures = g.signatures;
        documents = g.documents;
        link = g.link;
        shares = g.shares;
        rest = record { lines = methods_of g.said; is = refl; follows = refl; ahead = g.rest };
      }

  add_run : (after : List Line) (l : MethodLine) (ms : List MethodLine) (done rest : List Run) (run : Run) → IsLineOf m l
      → RiseFrom 0 0 (done ++ (run ∷ (rest ++ sizes l.old_size l.new_size ∷ [])))
      → Got m texts (Kept run ∷ after) [] [] [] [] [] [] [] (Open m l done ms) → Got m texts after [] [] [] [] [] [] [] (Open m l (done ++ run ∷ []) ms)
  add_run after l ms done rest run is rise g =
      let o = g.rest in
      let h : (0 < run.length) × (end_of run ≤ l.old_size) × (new_end_of run ≤ l.new_size) =
      ends_within 0 0 done rest run (sizes l.old_size l.new_size) rise in
      let long = h.0 in
      let old = h.1 in
      let new = h.2 in
      let old_to : l.old_size ≤ MAX_OFFSET = is.1 in
      let new_to : l.new_size ≤ MAX_OFFSET = is.2 in
      let within : EndsBeyond run (with_runs l done) → ⊥ = λ beyond. elim beyond [ inl b ↦ omega (arith, b, old) | inr b ↦ omega (arith, b, new) ] in
      let late : BeginsEarly run done → ⊥ = begins_late 0 0 done (rest ++ sizes l.old_size l.new_size ∷ []) run rise in
      let next = read_on (version_of m) g.prefix texts g.said after (Kept run) g.read g.plain g.whole
      (run_told (version_of m) (from_three m) run (omega (arith, old, old_to)) (omega (arith, new, new_to)) (omega (arith, long))
      (omega (arith, old, old_to)))
      (run_keeps g.said run (with_runs l done) o.lines o.is o.follows late within) in
      record {
        said = Kept run ∷ g.said;
        prefix = g.prefix ++ line_text (Kept run) ∷ [];
        read = next.0;
        plain = next.1;
        whole = next.2;
        counts = g.counts;
        images = g.images;
        same = g.same;
        drops = g.drops;
        slotted = g.slotted;
        slots = g.slots;
        signatures = g.signatures;
        documents = g.documents;
        link = g.link;
        shares = g.shares;
        rest = record { lines = o.lines; is = ap (with_run run) o.is; follows = o.follows; ahead = o.ahead };
      }

  add_runs : (after : List Line) (l : MethodLine) (ms : List MethodLine) (runs done : List Run) → IsLineOf m l
      → RiseFrom 0 0 (done ++ (runs ++ sizes l.old_size l.new_size ∷ [])) → Got m texts (map Kept runs ++ after) [] [] [] [] [] [] [] (Open m l done ms)
      → Got m texts after [] [] [] [] [] [] [] (Open m l (done ++ runs) ms)
  add_runs after l ms [] done is rise g = subst (λ d. Got m texts after [] [] [] [] [] [] [] (Open m l d ms)) (sym (append-nil done)) g
  add_runs after l ms (run ∷ runs) done is rise g =
      let next = add_run (map Kept runs ++ after) l ms done runs run is rise g in
      let further = add_runs after l ms runs (done ++ run ∷ []) is
      (subst (RiseFrom 0 0) (sym (append_assoc done (run ∷ []) (runs ++ sizes l.old_size l.new_size ∷ []))) rise) next in
      subst (λ d. Got m texts after [] [] [] [] [] [] [] (Open m l d ms)) (append_assoc done (run ∷ []) runs) further

  close : (after : List Line) (l : MethodLine) (ms : List MethodLine) → Got m texts after [] [] [] [] [] [] [] (Open m l l.runs ms)
      → Got m texts after [] [] [] [] [] [] [] (MethodsAhead m ms)
  close after l ms g =
      let o = g.rest in
      let closed : LinesAhead m (l ∷ o.lines) ms =
      steps (λ (l : MethodLine). l.method) (λ (l : MethodLine). l) nat_eq nat_cmp same_number nat_cmp_total (λ k. line_among o.lines k) l ms
      (λ k. option_map (λ (l : MethodLine). l) (line_among m.methods k)) o.ahead in
      record {
        said = g.said;
        prefix = g.prefix;
        read = g.read;
        plain = g.plain;
        whole = g.whole;
        counts = g.counts;
        images = g.images;
        same = g.same;
        drops = g.drops;
        slotted = g.slotted;
        slots = g.slots;
        signatures = g.signatures;
        documents = g.documents;
        link = g.link;
        shares = g.shares;
        rest = subst (λ lines. LinesAhead m lines ms) (sym o.is) closed;
      }

  pub add_methods : (ms : List MethodLine) → AllByRecursion (IsLineOf m) ms → Got m texts (flat_map method_says ms) [] [] [] [] [] [] [] (MethodsAhead m ms)
      → Got m texts [] [] [] [] [] [] [] [] (MethodsAhead m [])
  add_methods [] all g = g
  add_methods (l ∷ ms) all g =
      add_methods ms all.1 (close (flat_map method_says ms) l ms
      (add_runs (flat_map method_says ms) l ms l.runs [] all.0 all.0.3 (add_method (map Kept l.runs ++ flat_map method_says ms) l ms all.0 g)))
