-- Lines put after a text, one after the other.
use Rattle.std.{proofs.Common.{◌≡◌, ℕ, ◌+◌, ◌≤◌, List, [], ◌∷◌, ◌++◌, refl, sym, ◌∙◌, ap, arith, append_assoc, zero-add, map, length, false}, specs.Prelude.{Option}}
use Rattle.std.{specs.Prelude.{Some, Result, Ok, Err, OnOk, unwrap_or}, specs.List.{flat_map, sum_by}, specs.Result.{is_err}, proofs.lemmas.List.{append-nil}}
use Rattle.std.proofs.lemmas.List.Sums.{sum_by-append}
use Rattle.ppdb_base.specs.Written.{appended}
use Rattle.type_blobs.specs.Imports.{ImportItem}
use Rattle.ppdb_values.specs.Imports.{import_value}
use Rattle.ppdb_show_lines.{specs.Uses.{use_line}, specs.declared.form.Form.{Form}, specs.Forms.{lines_as}, specs.Lines.{Line}, proofs.Texts.{no_lines, more_lines}}
use Rattle.ppdb_show.specs.QueryWalk.{Adds, Walked}

-- what a sink in memory was given
pub added : {T E : Type 0} (form : Form) (r : Result T E) (old new : List ℕ) (shown : Line) → is_err r ≡ false
    → OnOk r (Some new ≡ appended (Some old) (lines_as form (shown ∷ []))) → Adds form old new (shown ∷ [])
added form (Ok x) old new shown h p = ap (λ (o : Option (List ℕ)). unwrap_or o []) p
added form (Err x) old new shown h p = absurd (grind (arith, h))

pub adds_none : (form : Form) (old : List ℕ) → Adds form old old []
adds_none form old = sym (append-nil old) ∙ ap (λ (text : List ℕ). old ++ text) (sym (no_lines form))

pub adds_both : (form : Form) (old mid new : List ℕ) (xs ys : List Line) → Adds form old mid xs → Adds form mid new ys → Adds form old new (xs ++ ys)
adds_both form old mid new xs ys h k =
    k ∙ ap (λ (text : List ℕ). text ++ lines_as form ys) h ∙ append_assoc old (lines_as form xs) (lines_as form ys)
    ∙ ap (λ (text : List ℕ). old ++ text) (sym (more_lines form xs ys))

-- the last of several is put by the call that answers
pub then_ok : {T E : Type 0} (form : Form) (r : Result T E) (old mid new : List ℕ) (xs ys : List Line) → Adds form old mid xs
    → OnOk r (Adds form mid new ys) → OnOk r (Adds form old new (xs ++ ys))
then_ok form (Ok x) old mid new xs ys h k = adds_both form old mid new xs ys h k
then_ok form (Err x) old mid new xs ys h k = tt

-- ---- walks

pub sum_first : {X : Type 0} (reads : X → ℕ) (x : X) (rest : List X) → sum_by reads (x ∷ rest) ≡ reads x + sum_by reads rest
sum_first reads x rest = sum_by-append reads (x ∷ []) rest ∙ ap (λ (n : ℕ). n + sum_by reads rest) (zero-add (reads x))

pub walk_none : {X : Type 0} {form : Form} (lines : X → List Line) (reads : X → ℕ) (all left : List X) (old : List ℕ) (before after : ℕ) → left ≡ all
    → after ≤ before → Walked form lines reads all left old old before after
walk_none {X} {form = form} lines reads all left old before after e cost =
    let same = ap (sum_by reads) e in
    record { put = ap (λ (xs : List X). old ++ lines_as form (flat_map lines xs)) (sym e); read = omega (arith, same, cost) }

pub walk_next : {X : Type 0} {form : Form} (lines : X → List Line) (reads : X → ℕ) (all left rest : List X) (x : X) (old mid new : List ℕ)
    (before between after : ℕ)
    → Walked form lines reads all left old mid before between → left ≡ x ∷ rest → Adds form mid new (lines x) → after ≤ between + reads x
    → Walked form lines reads all rest old new before after
walk_next {X} {form = form} lines reads all left rest x old mid new before between after h e a cost =
    let first = ap (sum_by reads) e ∙ sum_first reads x rest in
    let read = h.read in
    record {
      put = h.put ∙ ap (λ (xs : List X). mid ++ lines_as form (flat_map lines xs)) e
          ∙ ap (λ (text : List ℕ). mid ++ text) (more_lines form (lines x) (flat_map lines rest))
          ∙ sym (append_assoc mid (lines_as form (lines x)) (lines_as form (flat_map lines rest)))
          ∙ ap (λ (text : List ℕ). text ++ lines_as form (flat_map lines rest)) (sym a);
      read = omega (arith, first, read, cost);
    }

-- where an item was not put whole
pub walk_cut : {X : Type 0} {form : Form} (lines : X → List Line) (reads : X → ℕ) (all left rest : List X) (x : X) (old mid : List ℕ) (before between after : ℕ)
    → Walked form lines reads all left old mid before between → left ≡ x ∷ rest → after ≤ between + reads x → after ≤ before + sum_by reads all
walk_cut lines reads all left rest x old mid before between after h e cost =
    let first = ap (sum_by reads) e ∙ sum_first reads x rest in
    let read = h.read in
    omega (arith, first, read, cost)

pub walk_done : {X : Type 0} {form : Form} (lines : X → List Line) (reads : X → ℕ) (all left : List X) (old new : List ℕ) (before after : ℕ)
    → Walked form lines reads all left old new before after → left ≡ [] → Adds form old new (flat_map lines all)
walk_done {X} {form = form} lines reads all left old new before after h e =
    sym (h.put ∙ ap (λ (xs : List X). new ++ lines_as form (flat_map lines xs)) e ∙ ap (λ (text : List ℕ). new ++ text) (no_lines form) ∙ append-nil new)

pub walk_cost : {X : Type 0} {form : Form} (lines : X → List Line) (reads : X → ℕ) (all left : List X) (old new : List ℕ) (before after : ℕ)
    → Walked form lines reads all left old new before after → after ≤ before + sum_by reads all
walk_cost lines reads all left old new before after h = let read = h.read in omega (arith, read)

-- ---- a line for each item

pub lines_each : {X : Type 0} (f : X → Line) (xs : List X) → flat_map (λ x. f x ∷ []) xs ≡ map f xs
lines_each f [] = refl
lines_each f (x ∷ xs) = ap (λ (rest : List Line). f x ∷ rest) (lines_each f xs)

pub one_each : {X : Type 0} (xs : List X) → sum_by (λ x. 1) xs ≡ length xs
one_each [] = refl
one_each {X} (x ∷ xs) =
    let first = sum_first (λ (y : X). 1) x xs in
    let more = one_each xs in
    omega (arith, first, more)

pub none_each : {X : Type 0} (xs : List X) → sum_by (λ x. 0) xs ≡ 0
none_each [] = refl
none_each {X} (x ∷ xs) =
    let first = sum_first (λ (y : X). 0) x xs in
    let more = none_each xs in
    omega (arith, first, more)

-- the lines of other lists that are the same
pub adds_same : (form : Form) (old new : List ℕ) (xs ys : List Line) → xs ≡ ys → Adds form old new xs → Adds form old new ys
adds_same form old new xs ys e h = h ∙ ap (λ (lines : List Line). old ++ lines_as form lines) e

pub uses_each : (items : List ImportItem) → flat_map (λ item. use_line (import_value item) ∷ []) items ≡ map use_line (map import_value items)
uses_each [] = refl
uses_each (item ∷ items) = ap (λ (rest : List Line). use_line (import_value item) ∷ rest) (uses_each items)

-- the whole text of an answer
pub whole_text : {T E : Type 0} (form : Form) (r : Result T E) (old new content : List ℕ) (lines : List Line) → is_err r ≡ false → old ≡ []
    → OnOk r (Adds form old new lines) → content ≡ new → content ≡ lines_as form lines
whole_text form (Ok x) old new content lines h empty put same = same ∙ put ∙ ap (λ (text : List ℕ). text ++ lines_as form lines) empty
whole_text form (Err x) old new content lines h empty put same = absurd (grind (arith, h))
