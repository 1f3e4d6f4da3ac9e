-- What lines that break no rule say is in range and fits together.
use Rattle.std.proofs.Common.{inl, inr, ◌⊎◌, ℕ, ◌≡◌, ◌<◌, ◌≤◌, ◌++◌, ◌&&◌, ◌||◌, Bool, true, false, cond, List, [], ◌∷◌, Option, Some, None, refl, sym, ap, ◌∙◌}
use Rattle.std.{proofs.Common.{subst, arith, ◌≢◌}, specs.Prelude.{nat_eq, bytes_eq, is_some}, specs.List.{find}, proofs.lemmas.Bool.{false≢true, eqb-true}}
use Rattle.std.proofs.lemmas.Bool.{and_parts, or_left, or_right}
use Rattle.ppdb_base.specs.{declared.offsets.Run.{Run}, Offsets.{Rise, lined}, declared.limits.TheConstants.{MAX_ROWS, MAX_OFFSET}}
use Rattle.ppdb_maps.specs.Before.{count_in, row_in, cross_in, gone_in, has_image_in, method_in, methods_of, with_run, drop_in, slots_in, slot_in, signature_in}
use Rattle.ppdb_maps.specs.{Before.{document_in, link_in}, Forms.{AreBytes, MAX_SLOT, Values, Tells, silent, told, rows_line, row_line, method_line, run_line}}
use Rattle.ppdb_maps.specs.Forms.{drop_line, slots_line, slot_line, signature_line, document_line, link_line, cross_line, gone_line, shares_line, Crosses}
use Rattle.ppdb_maps.specs.{Map.{MethodLine}, Readable.{IsRow}, Rules.{Breaks, row_alone, slot_alone, run_early, run_long, drop_named, dropped_method, dropped_row}}
use Rattle.ppdb_maps.specs.{Rules.{dropped_slots, dropped_signature, by_lines, second_row, second_cross, second_gone, cross_alone, gone_alone}, Text.{Read, start}}
use Rattle.ppdb_maps.specs.{Text.{further}, declared.line.Form.{Form}, declared.line.Line.{Line}, declared.line.Line.TheVariants.{Silent, Rows, Row, Cross, Gone}}
use Rattle.ppdb_maps.specs.declared.{line.Line.TheVariants.{Method, Kept, Dropped, Slots, Slot, Signature, Document, Link, Shares}, entries.CrossLine.{CrossLine}}
use Rattle.ppdb_maps.specs.declared.{entries.NameLine.{NameLine}, rule.Rule.{Rule}, rule.Rule.TheVariants.{Repeated, Undeclared, Overlap, Beyond, NamesDropped}}
use Rattle.ppdb_maps.proofs.{Finishing.{found_at_number}, Named.{same_bytes}, Rising.{rise_with, not_less}}

-- the numbers of a line
abbrev InRange : Line → Type 0
InRange Silent = Unit {0}
InRange (Rows t n) = (t ≤ 0x2c) × (n ≤ MAX_ROWS)
InRange (Row t o n) = IsRow o × IsRow n
InRange (Cross line) = IsRow line.old × IsRow line.new × Crosses line
InRange (Gone t o) = IsRow o × (t ≢ 0x06)
InRange (Method m o n) = IsRow m × (o ≤ MAX_OFFSET) × (n ≤ MAX_OFFSET)
InRange (Kept run) = 0 < run.length
InRange (Dropped m) = IsRow m
InRange (Slots m) = IsRow m
InRange (Slot m o n) = (o ≤ MAX_SLOT) × (n ≤ MAX_SLOT)
InRange (Signature m n) = IsRow m × (n ≤ MAX_ROWS)
InRange (Document d) = AreBytes d.old × AreBytes d.new
InRange (Link value) = AreBytes value
InRange Shares = Unit {0}

values_range : (form : Form) (values : List (List ℕ)) (line : Line) → Values form values line → InRange line
values_range form values line (rows_line a b) = (a.1, b.to)
values_range form values line (row_line a b d) = ((b.from, b.to), (d.from, d.to))
values_range form values line (cross_line a b d e f) = ((b.from, b.to), (e.from, e.to), f)
values_range form values line (gone_line a b d) = ((d.from, d.to), b)
values_range form values line (method_line a b d) = ((a.from, a.to), b.to, d.to)
values_range form values line (run_line a b d) = d.from
values_range form values line (drop_line a) = (a.from, a.to)
values_range form values line (slots_line a) = (a.from, a.to)
values_range form values line (slot_line a b d) = (b.to, d.to)
values_range form values line (signature_line a b) = ((a.from, a.to), b.to)
values_range form values line (document_line a b) = (a.within, b.within)
values_range form values line (link_line a) = a.within
values_range form values line shares_line = tt

tells_range : (version : ℕ) (text : List ℕ) (line : Line) → Tells version text line → InRange line
tells_range version text line (silent h) = tt
tells_range version text line (told form loud has values) = values_range form has.values line values

-- the numbers of a method's line, with its runs
abbrev pub FitsLine : List Line → MethodLine → Type 0
FitsLine said line =
    IsRow line.method × (line.old_size ≤ MAX_OFFSET) × (line.new_size ≤ MAX_OFFSET)
    × Rise (lined line.runs line.old_size line.new_size) × (drop_in said line.method ≡ false)

-- the answers of lines
pub record Fits (said : List Line) : Type 0 where
  pub counts : (t n : ℕ) → count_in said t ≡ Some n → (t ≤ 0x2c) × (n ≤ MAX_ROWS)
  pub rows : (t o n : ℕ) → row_in said t o ≡ Some n → IsRow o × IsRow n × (is_some (count_in said t) ≡ true) × (t ≡ 0x06 → drop_in said o ≡ false)
  pub crossed : (t o : ℕ) (line : CrossLine) → cross_in said t o ≡ Some line
      → IsRow o × IsRow line.new × Crosses line × (is_some (count_in said t) ≡ true) × (row_in said t o ≡ None)
  pub gone : (t o : ℕ) → gone_in said t o ≡ true
      → IsRow o × (t ≢ 0x06) × (is_some (count_in said t) ≡ true) × (row_in said t o ≡ None) × (cross_in said t o ≡ None)
  pub methods : (m : ℕ) (line : MethodLine) → method_in said m ≡ Some line → FitsLine said line
  pub drops : (m : ℕ) → drop_in said m ≡ true → IsRow m
  pub slotted : (m : ℕ) → slots_in said m ≡ true → IsRow m × (drop_in said m ≡ false)
  pub slots : (m o n : ℕ) → slot_in said m o ≡ Some n → (o ≤ MAX_SLOT) × (n ≤ MAX_SLOT) × (slots_in said m ≡ true)
  pub signatures : (m n : ℕ) → signature_in said m ≡ Some n → IsRow m × (n ≤ MAX_ROWS) × (drop_in said m ≡ false)
  pub documents : (old new : List ℕ) → document_in said old ≡ Some new → AreBytes old × AreBytes new
  pub link : (value : List ℕ) → link_in said ≡ Some value → AreBytes value

-- an answer comes from the last line or from the lines before it
answer_from : {A : Type 0} (b : Bool) (x y : A) (o : Option A) → cond b (Some x) o ≡ Some y → ((b ≡ true) × (x ≡ y)) ⊎ ((b ≡ false) × (o ≡ Some y))
answer_from true x y o is = let e : x ≡ y = cc in inl (refl, e)
answer_from false x y o is = inr (refl, is)

true_from : (b c : Bool) → cond b true c ≡ true → (b ≡ true) ⊎ (c ≡ true)
true_from true c is = inl refl
true_from false c is = inr is

still_some : {A : Type 0} (b : Bool) (x : A) (o : Option A) → is_some o ≡ true → is_some (cond b (Some x) o) ≡ true
still_some true x o is = refl
still_some false x o is = is

still_true : (b c : Bool) → c ≡ true → cond b true c ≡ true
still_true true c is = refl
still_true false c is = is

still_false : (b c : Bool) → (b ≡ true → ⊥) → c ≡ false → cond b true c ≡ false
still_false true c never is = absurd (never refl)
still_false false c never is = is

not_true : (b : Bool) → (b ≡ true → ⊥) → b ≡ false
not_true true never = absurd (never refl)
not_true false never = refl

not_false : (b : Bool) → (b ≡ false → ⊥) → b ≡ true
not_false true never = refl
not_false false never = absurd (never refl)

not_none : {A : Type 0} (o : Option A) → (o ≡ None → ⊥) → is_some o ≡ true
not_none None never = absurd (never refl)
not_none (Some x) never = refl

there : {A : Type 0} (o : Option A) (x : A) → o ≡ Some x → is_some o ≡ true
there o x is = ap is_some is

still_none : {A : Type 0} (b : Bool) (x : A) (o : Option A) → (b ≡ true → ⊥) → o ≡ None → cond b (Some x) o ≡ None
still_none true x o never is = absurd (never refl)
still_none false x o never is = is

none_there : {A : Type 0} (o : Option A) → (is_some o ≡ true → ⊥) → o ≡ None
none_there None never = refl
none_there (Some x) never = absurd (never refl)

-- a row with a line has an image
image_row : (before : List Line) (t o : ℕ) → is_some (row_in before t o) ≡ true → has_image_in before t o ≡ true
image_row before t o is = or_left (is_some (row_in before t o)) (is_some (cross_in before t o) || gone_in before t o) is

image_cross : (before : List Line) (t o : ℕ) → is_some (cross_in before t o) ≡ true → has_image_in before t o ≡ true
image_cross before t o is = or_right (is_some (row_in before t o)) (is_some (cross_in before t o) || gone_in before t o)
    (or_left (is_some (cross_in before t o)) (gone_in before t o) is)

image_gone : (before : List Line) (t o : ℕ) → gone_in before t o ≡ true → has_image_in before t o ≡ true
image_gone before t o is = or_right (is_some (row_in before t o)) (is_some (cross_in before t o) || gone_in before t o)
    (or_right (is_some (cross_in before t o)) (gone_in before t o) is)

-- what a row has, the same row has
at_pair_there : (before : List Line) (t o k j : ℕ) → (nat_eq t k && nat_eq o j) ≡ true → has_image_in before k j ≡ true → has_image_in before t o ≡ true
at_pair_there before t o k j hit image =
    let parts = and_parts (nat_eq t k) (nat_eq o j) hit in
    subst (λ x. has_image_in before x o ≡ true) (sym (eqb-true t k parts.0)) (subst (λ x. has_image_in before k x ≡ true) (sym (eqb-true o j parts.1)) image)

-- no line before breaks a rule by this one
abbrev KeepsAll : List Line → Line → Type 0
KeepsAll before line = (rule : Rule) → Breaks before rule line → ⊥

fits_silent : (before : List Line) → Fits before → Fits (Silent ∷ before)
fits_silent before fits = record {
  counts = fits.counts;
  rows = fits.rows;
  crossed = fits.crossed;
  gone = fits.gone;
  methods = fits.methods;
  drops = fits.drops;
  slotted = fits.slotted;
  slots = fits.slots;
  signatures = fits.signatures;
  documents = fits.documents;
  link = fits.link;
}

fits_rows : (before : List Line) (t n : ℕ) → Fits before → InRange (Rows t n) → Fits (Rows t n ∷ before)
fits_rows before t n fits range = record {
  counts = λ k m is. elim (answer_from (nat_eq t k) n m (count_in before k) is) [
    | inl (hit, same) ↦ (subst (λ x. x ≤ 0x2c) (eqb-true t k hit) range.0, subst (λ x. x ≤ MAX_ROWS) same range.1)
    | inr (miss, rest) ↦ fits.counts k m rest
  ];
  rows = λ k o m is. let h = fits.rows k o m is in (h.0, h.1, still_some (nat_eq t k) n (count_in before k) h.2, h.3);
  crossed = λ k o line is. let h = fits.crossed k o line is in (h.0, h.1, h.2, still_some (nat_eq t k) n (count_in before k) h.3, h.4);
  gone = λ k o is. let h = fits.gone k o is in (h.0, h.1, still_some (nat_eq t k) n (count_in before k) h.2, h.3, h.4);
  methods = fits.methods;
  drops = fits.drops;
  slotted = fits.slotted;
  slots = fits.slots;
  signatures = fits.signatures;
  documents = fits.documents;
  link = fits.link;
}

fits_row : (before : List Line) (t o n : ℕ) → Fits before → InRange (Row t o n) → KeepsAll before (Row t o n) → Fits (Row t o n ∷ before)
fits_row before t o n fits range keeps = record {
  counts = fits.counts;
  rows = λ k j m is. elim (answer_from (nat_eq t k && nat_eq o j) n m (row_in before k j) is) [
    | inl (hit, same) ↦
        let parts = and_parts (nat_eq t k) (nat_eq o j) hit in
        let tables : t ≡ k = eqb-true t k parts.0 in
        let olds : o ≡ j = eqb-true o j parts.1 in (
          subst IsRow olds range.0,
          subst IsRow same range.1,
          subst (λ x. is_some (count_in before x) ≡ true) tables (not_none (count_in before t) (λ none. keeps Undeclared (row_alone none))),
          λ six. subst (λ x. drop_in before x ≡ false) olds (not_true (drop_in before o) (λ drop. keeps NamesDropped (dropped_row (tables ∙ six) drop))),
        )
    | inr (miss, rest) ↦ fits.rows k j m rest
  ];
  crossed = λ k j line is.
      let h = fits.crossed k j line is in
      (h.0, h.1, h.2, h.3, still_none (nat_eq t k && nat_eq o j) n (row_in before k j) (λ hit. alone k j hit (image_cross before k j (there _ line is))) h.4);
  gone = λ k j is.
      let h = fits.gone k j is in
      (h.0, h.1, h.2, still_none (nat_eq t k && nat_eq o j) n (row_in before k j) (λ hit. alone k j hit (image_gone before k j is)) h.3, h.4);
  methods = fits.methods;
  drops = fits.drops;
  slotted = fits.slotted;
  slots = fits.slots;
  signatures = fits.signatures;
  documents = fits.documents;
  link = fits.link;
}
  where
    alone : (k j : ℕ) → (nat_eq t k && nat_eq o j) ≡ true → has_image_in before k j ≡ true → ⊥
    alone k j hit image = keeps Repeated (second_row (at_pair_there before t o k j hit image))

fits_cross : (before : List Line) (line : CrossLine) → Fits before → InRange (Cross line) → KeepsAll before (Cross line) → Fits (Cross line ∷ before)
fits_cross before line fits range keeps = record {
  counts = fits.counts;
  rows = fits.rows;
  crossed = λ k j other is. elim (answer_from (nat_eq line.table k && nat_eq line.old j) line other (cross_in before k j) is) [
    | inl (hit, same) ↦
        let parts = and_parts (nat_eq line.table k) (nat_eq line.old j) hit in (
          subst IsRow (eqb-true line.old j parts.1) range.0,
          subst (λ (l : CrossLine). IsRow l.new) same range.1,
          subst Crosses same range.2,
          subst (λ x. is_some (count_in before x) ≡ true) (eqb-true line.table k parts.0)
              (not_none (count_in before line.table) (λ none. keeps Undeclared (cross_alone none))),
          none_there (row_in before k j) (λ some. alone k j hit (image_row before k j some)),
        )
    | inr (miss, rest) ↦ fits.crossed k j other rest
  ];
  gone = λ k j is.
      let h = fits.gone k j is in (
        h.0,
        h.1,
        h.2,
        h.3,
        still_none (nat_eq line.table k && nat_eq line.old j) line (cross_in before k j) (λ hit. alone k j hit (image_gone before k j is)) h.4,
      );
  methods = fits.methods;
  drops = fits.drops;
  slotted = fits.slotted;
  slots = fits.slots;
  signatures = fits.signatures;
  documents = fits.documents;
  link = fits.link;
}
  where
    alone : (k j : ℕ) → (nat_eq line.table k && nat_eq line.old j) ≡ true → has_image_in before k j ≡ true → ⊥
    alone k j hit image = keeps Repeated (second_cross (at_pair_there before line.table line.old k j hit image))

fits_gone : (before : List Line) (t o : ℕ) → Fits before → InRange (Gone t o) → KeepsAll before (Gone t o) → Fits (Gone t o ∷ before)
fits_gone before t o fits range keeps = record {
  counts = fits.counts;
  rows = fits.rows;
  crossed = fits.crossed;
  gone = λ k j is. elim (true_from (nat_eq t k && nat_eq o j) (gone_in before k j) is) [
    | inl hit ↦
        let parts = and_parts (nat_eq t k) (nat_eq o j) hit in
        let tables : t ≡ k = eqb-true t k parts.0 in (
          subst IsRow (eqb-true o j parts.1) range.0,
          subst (λ x. x ≢ 0x06) tables range.1,
          subst (λ x. is_some (count_in before x) ≡ true) tables (not_none (count_in before t) (λ none. keeps Undeclared (gone_alone none))),
          none_there (row_in before k j) (λ some. alone k j hit (image_row before k j some)),
          none_there (cross_in before k j) (λ some. alone k j hit (image_cross before k j some)),
        )
    | inr rest ↦ fits.gone k j rest
  ];
  methods = fits.methods;
  drops = fits.drops;
  slotted = fits.slotted;
  slots = fits.slots;
  signatures = fits.signatures;
  documents = fits.documents;
  link = fits.link;
}
  where
    alone : (k j : ℕ) → (nat_eq t k && nat_eq o j) ≡ true → has_image_in before k j ≡ true → ⊥
    alone k j hit image = keeps Repeated (second_gone (at_pair_there before t o k j hit image))

fits_method : (before : List Line) (m o n : ℕ) → Fits before → InRange (Method m o n) → KeepsAll before (Method m o n) → Fits (Method m o n ∷ before)
fits_method before m o n fits range keeps = record {
  counts = fits.counts;
  rows = fits.rows;
  crossed = fits.crossed;
  gone = fits.gone;
  methods = λ k line is. elim (answer_from (nat_eq m k) (record { method = m; old_size = o; new_size = n; runs = [] }) line (method_in before k) is) [
    | inl (hit, same) ↦
        subst (λ l. FitsLine before l) same
        (range.0, range.1, range.2, (omega arith, omega arith, omega arith, tt), not_true (drop_in before m) (λ drop. keeps NamesDropped (dropped_method drop)))
    | inr (miss, rest) ↦ fits.methods k line rest
  ];
  drops = fits.drops;
  slotted = fits.slotted;
  slots = fits.slots;
  signatures = fits.signatures;
  documents = fits.documents;
  link = fits.link;
}

fits_kept : (before : List Line) (run : Run) → Fits before → InRange (Kept run) → KeepsAll before (Kept run) → Fits (Kept run ∷ before)
fits_kept before run fits range keeps = record {
  counts = fits.counts;
  rows = fits.rows;
  crossed = fits.crossed;
  gone = fits.gone;
  methods = λ k line is. of k line (methods_of before) refl is;
  drops = fits.drops;
  slotted = fits.slotted;
  slots = fits.slots;
  signatures = fits.signatures;
  documents = fits.documents;
  link = fits.link;
}
  where
    with_longer : (first : MethodLine) (others : List MethodLine) → methods_of before ≡ first ∷ others → FitsLine before first
        → FitsLine before (record first { runs = first.runs ++ run ∷ [] })
    with_longer first others e fit = (
      fit.0,
      fit.1,
      fit.2,
      rise_with 0 0 first.runs run (record { old = first.old_size; new = first.new_size; length = 1 }) range
          (not_less _ _ (λ h. keeps Beyond (run_long e (inl h)))) (not_less _ _ (λ h. keeps Beyond (run_long e (inr h))))
          (λ early. keeps Overlap (run_early e early)) (λ _. (omega arith, omega arith)) fit.3,
      fit.4,
    )

    of : (k : ℕ) (line : MethodLine) (lines : List MethodLine) → methods_of before ≡ lines → find (λ l. nat_eq l.method k) (with_run run lines) ≡ Some line
        → FitsLine before line
    of k line [] e is = absurd (cc)
    of k line (first ∷ others) e is =
        elim (answer_from (nat_eq first.method k) (record first { runs = first.runs ++ run ∷ [] }) line (find (λ l. nat_eq l.method k) others) is) [
          | inl (hit, same) ↦ subst (λ l. FitsLine before l) same
              (with_longer first others e (fits.methods k first (ap (find (λ l. nat_eq l.method k)) e ∙ rw hit refl)))
          | inr (miss, rest) ↦ fits.methods k line (ap (find (λ l. nat_eq l.method k)) e ∙ rw miss rest)
        ]

fits_drop : (before : List Line) (m : ℕ) → Fits before → InRange (Dropped m) → KeepsAll before (Dropped m) → Fits (Dropped m ∷ before)
fits_drop before m fits range keeps = record {
  counts = fits.counts;
  rows = λ t o n is.
      let h = fits.rows t o n is in
      (h.0, h.1, h.2, λ six. still_false (nat_eq m o) (drop_in before o) (λ hit. no_row t o n six (eqb-true m o hit) is) (h.3 six));
  crossed = fits.crossed;
  gone = fits.gone;
  methods = λ k line is.
      let h = fits.methods k line is in
      (h.0, h.1, h.2, h.3, still_false (nat_eq m line.method) (drop_in before line.method) (λ hit. no_method k line (eqb-true m line.method hit) is) h.4);
  drops = λ k is. elim (true_from (nat_eq m k) (drop_in before k) is) [ inl hit ↦ subst IsRow (eqb-true m k hit) range | inr rest ↦ fits.drops k rest ];
  slotted = λ k is. let h = fits.slotted k is in (h.0, still_false (nat_eq m k) (drop_in before k) (λ hit. no_slots k (eqb-true m k hit) is) h.1);
  slots = fits.slots;
  signatures = λ k n is.
      let h = fits.signatures k n is in
      (h.0, h.1, still_false (nat_eq m k) (drop_in before k) (λ hit. no_signature k n (eqb-true m k hit) is) h.2);
  documents = fits.documents;
  link = fits.link;
}
  where
    no_row : (t o n : ℕ) → t ≡ 0x06 → m ≡ o → row_in before t o ≡ Some n → ⊥
    no_row t o n six same is =
        keeps NamesDropped (drop_named
        (inr (inl (subst (λ x. has_image_in before 0x06 x ≡ true) (sym same)
        (subst (λ x. has_image_in before x o ≡ true) six (image_row before t o (there _ n is)))))))

    no_method : (k : ℕ) (line : MethodLine) → m ≡ line.method → method_in before k ≡ Some line → ⊥
    no_method k line same is =
        keeps NamesDropped (drop_named
        (inl (subst (λ x. is_some (method_in before x) ≡ true) (sym (same ∙ found_at_number (methods_of before) k line is)) (there _ line is))))

    no_slots : (k : ℕ) → m ≡ k → slots_in before k ≡ true → ⊥
    no_slots k same is = keeps NamesDropped (drop_named (inr (inr (inl (subst (λ x. slots_in before x ≡ true) (sym same) is)))))

    no_signature : (k n : ℕ) → m ≡ k → signature_in before k ≡ Some n → ⊥
    no_signature k n same is =
        keeps NamesDropped (drop_named (inr (inr (inr (subst (λ x. is_some (signature_in before x) ≡ true) (sym same) (there _ n is))))))

fits_slots : (before : List Line) (m : ℕ) → Fits before → InRange (Slots m) → KeepsAll before (Slots m) → Fits (Slots m ∷ before)
fits_slots before m fits range keeps = record {
  counts = fits.counts;
  rows = fits.rows;
  crossed = fits.crossed;
  gone = fits.gone;
  methods = fits.methods;
  drops = fits.drops;
  slotted = λ k is. elim (true_from (nat_eq m k) (slots_in before k) is) [
    | inl hit ↦
        let same : m ≡ k = eqb-true m k hit in
        subst (λ x. IsRow x × (drop_in before x ≡ false)) same (range, not_true (drop_in before m) (λ drop. keeps NamesDropped (dropped_slots drop)))
    | inr rest ↦ fits.slotted k rest
  ];
  slots = λ k o n is. let h = fits.slots k o n is in (h.0, h.1, still_true (nat_eq m k) (slots_in before k) h.2);
  signatures = fits.signatures;
  documents = fits.documents;
  link = fits.link;
}

fits_slot : (before : List Line) (m o n : ℕ) → Fits before → InRange (Slot m o n) → KeepsAll before (Slot m o n) → Fits (Slot m o n ∷ before)
fits_slot before m o n fits range keeps = record {
  counts = fits.counts;
  rows = fits.rows;
  crossed = fits.crossed;
  gone = fits.gone;
  methods = fits.methods;
  drops = fits.drops;
  slotted = fits.slotted;
  slots = λ k j i is. elim (answer_from (nat_eq m k && nat_eq o j) n i (slot_in before k j) is) [
    | inl (hit, same) ↦
        let parts = and_parts (nat_eq m k) (nat_eq o j) hit in (
          subst (λ x. x ≤ MAX_SLOT) (eqb-true o j parts.1) range.0,
          subst (λ x. x ≤ MAX_SLOT) same range.1,
          subst (λ x. slots_in before x ≡ true) (eqb-true m k parts.0) (not_false (slots_in before m) (λ none. keeps Undeclared (slot_alone none))),
        )
    | inr (miss, rest) ↦ fits.slots k j i rest
  ];
  signatures = fits.signatures;
  documents = fits.documents;
  link = fits.link;
}

fits_signature : (before : List Line) (m n : ℕ) → Fits before → InRange (Signature m n) → KeepsAll before (Signature m n) → Fits (Signature m n ∷ before)
fits_signature before m n fits range keeps = record {
  counts = fits.counts;
  rows = fits.rows;
  crossed = fits.crossed;
  gone = fits.gone;
  methods = fits.methods;
  drops = fits.drops;
  slotted = fits.slotted;
  slots = fits.slots;
  signatures = λ k i is. elim (answer_from (nat_eq m k) n i (signature_in before k) is) [
    | inl (hit, same) ↦
        let one : m ≡ k = eqb-true m k hit in (
          subst IsRow one range.0,
          subst (λ x. x ≤ MAX_ROWS) same range.1,
          subst (λ x. drop_in before x ≡ false) one (not_true (drop_in before m) (λ drop. keeps NamesDropped (dropped_signature drop))),
        )
    | inr (miss, rest) ↦ fits.signatures k i rest
  ];
  documents = fits.documents;
  link = fits.link;
}

fits_document : (before : List Line) (d : NameLine) → Fits before → InRange (Document d) → Fits (Document d ∷ before)
fits_document before d fits range = record {
  counts = fits.counts;
  rows = fits.rows;
  crossed = fits.crossed;
  gone = fits.gone;
  methods = fits.methods;
  drops = fits.drops;
  slotted = fits.slotted;
  slots = fits.slots;
  signatures = fits.signatures;
  documents = λ old new is. elim (answer_from (bytes_eq d.old old) d.new new (document_in before old) is) [
    | inl (hit, same) ↦ (subst AreBytes (same_bytes d.old old hit) range.0, subst AreBytes same range.1)
    | inr (miss, rest) ↦ fits.documents old new rest
  ];
  link = fits.link;
}

fits_link : (before : List Line) (value : List ℕ) → Fits before → InRange (Link value) → Fits (Link value ∷ before)
fits_link before value fits range = record {
  counts = fits.counts;
  rows = fits.rows;
  crossed = fits.crossed;
  gone = fits.gone;
  methods = fits.methods;
  drops = fits.drops;
  slotted = fits.slotted;
  slots = fits.slots;
  signatures = fits.signatures;
  documents = fits.documents;
  link = λ other is. let e : value ≡ other = cc in subst AreBytes e range;
}

fits_shares : (before : List Line) → Fits before → Fits (Shares ∷ before)
fits_shares before fits = record {
  counts = fits.counts;
  rows = fits.rows;
  crossed = fits.crossed;
  gone = fits.gone;
  methods = fits.methods;
  drops = fits.drops;
  slotted = fits.slotted;
  slots = fits.slots;
  signatures = fits.signatures;
  documents = fits.documents;
  link = fits.link;
}

fits_line : (before : List Line) (line : Line) → Fits before → InRange line → KeepsAll before line → Fits (line ∷ before)
fits_line before Silent fits range keeps = fits_silent before fits
fits_line before (Rows t n) fits range keeps = fits_rows before t n fits range
fits_line before (Row t o n) fits range keeps = fits_row before t o n fits range keeps
fits_line before (Cross line) fits range keeps = fits_cross before line fits range keeps
fits_line before (Gone t o) fits range keeps = fits_gone before t o fits range keeps
fits_line before (Method m o n) fits range keeps = fits_method before m o n fits range keeps
fits_line before (Kept run) fits range keeps = fits_kept before run fits range keeps
fits_line before (Dropped m) fits range keeps = fits_drop before m fits range keeps
fits_line before (Slots m) fits range keeps = fits_slots before m fits range keeps
fits_line before (Slot m o n) fits range keeps = fits_slot before m o n fits range keeps
fits_line before (Signature m n) fits range keeps = fits_signature before m n fits range keeps
fits_line before (Document d) fits range keeps = fits_document before d fits range
fits_line before (Link value) fits range keeps = fits_link before value fits range
fits_line before Shares fits range keeps = fits_shares before fits

-- lines that were read fit together
pub read_fits : (version : ℕ) (texts : List (List ℕ)) (said : List Line) → Read version texts said → Fits said
read_fits version texts said start = record {
  counts = λ t n is. absurd (cc);
  rows = λ t o n is. absurd (cc);
  crossed = λ t o line is. absurd (cc);
  gone = λ t o is. absurd (false≢true is);
  methods = λ m line is. absurd (cc);
  drops = λ m is. absurd (false≢true is);
  slotted = λ m is. absurd (false≢true is);
  slots = λ m o n is. absurd (cc);
  signatures = λ m n is. absurd (cc);
  documents = λ old new is. absurd (cc);
  link = λ value is. absurd (cc);
}
read_fits version texts said (further {texts = prefix} {before} {text} {line} read tells keeps) =
    fits_line before line (read_fits version prefix before read) (tells_range version text line tells) (λ rule breaks. keeps rule (by_lines tells breaks))
