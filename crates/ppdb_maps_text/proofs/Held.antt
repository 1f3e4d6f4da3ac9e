-- The map that lines say, whichever they are.
use Rattle.std.{proofs.Common.{ℕ, ◌≡◌, ◌++◌, Bool, true, false, cond, List, [], ◌∷◌, Option, Some, None, map, refl, sym, ap, ◌∙◌, subst}, specs.Prelude.{nat_eq}}
use Rattle.std.specs.{Prelude.{bytes_eq, is_some, option_map}, Cmp.Lexicographic.{slice_cmp, nat_list_cmp_total}, List.{find, list_any}}
use Rattle.std.{specs.List.Sorted.{IsStrictlySortedBy}, specs.Ordering.{nat_cmp}, proofs.lemmas.Cmp.{nat_cmp_total}, proofs.lemmas.Map.Lookups.{exact_unsigned}}
use Rattle.std.proofs.lemmas.Map.Lookups.{exact_bytes}
use Rattle.ppdb_base.specs.declared.offsets.Run.{Run}
use Rattle.ppdb_maps.specs.declared.entries.{Count.{Count}, RowLine.{RowLine}, CrossLine.{CrossLine}, GoneLine.{GoneLine}, SlotImage.{SlotImage}}
use Rattle.ppdb_maps.specs.declared.{entries.SignatureImage.{SignatureImage}, entries.NameLine.{NameLine}, line.Line.{Line}, line.Line.TheVariants.{Silent, Rows}}
use Rattle.ppdb_maps.specs.declared.line.Line.TheVariants.{Row, Cross, Gone, Method, Kept, Dropped, Slots, Slot, Signature, Document, Link, Shares}
use Rattle.ppdb_maps.specs.{Before.{gone_in, methods_of}, Gathered.{same_pair}, Map.{Map, MethodLine, map_of, pair_cmp, method_line}, Text.{HoldsWhat}}
use Rattle.ppdb_maps.proofs.{Named.{same_bytes}, OneMap.{same_number, pair_is, pair_total, pair_exact}, OneList.{any_is}}
use Rattle.ppdb_maps_text.proofs.Entries.{put, put_found, put_rises, any_found}

-- ---- an item more in each list

abbrev table_of : Count → ℕ
table_of count = count.table

abbrev row_of : RowLine → ℕ × ℕ
row_of row = (row.table, row.old)

abbrev cross_of : CrossLine → ℕ × ℕ
cross_of line = (line.table, line.old)

abbrev gone_of : GoneLine → ℕ × ℕ
gone_of line = (line.table, line.old)

abbrev method_of : MethodLine → ℕ
method_of line = line.method

abbrev slot_of : SlotImage → ℕ × ℕ
slot_of slot = (slot.method, slot.old)

abbrev signed_of : SignatureImage → ℕ
signed_of signature = signature.method

abbrev name_of : NameLine → List ℕ
name_of document = document.old

abbrev itself : ℕ → ℕ
itself n = n

abbrev with_count : Count → List Count → List Count
with_count x xs = put table_of nat_eq nat_cmp same_number nat_cmp_total exact_unsigned x xs

abbrev with_row : RowLine → List RowLine → List RowLine
with_row x xs = put row_of same_pair pair_cmp pair_is pair_total pair_exact x xs

abbrev with_cross : CrossLine → List CrossLine → List CrossLine
with_cross x xs = put cross_of same_pair pair_cmp pair_is pair_total pair_exact x xs

abbrev with_gone : GoneLine → List GoneLine → List GoneLine
with_gone x xs = put gone_of same_pair pair_cmp pair_is pair_total pair_exact x xs

abbrev with_line : MethodLine → List MethodLine → List MethodLine
with_line x xs = put method_of nat_eq nat_cmp same_number nat_cmp_total exact_unsigned x xs

abbrev with_number : ℕ → List ℕ → List ℕ
with_number x xs = put itself nat_eq nat_cmp same_number nat_cmp_total exact_unsigned x xs

abbrev with_slot : SlotImage → List SlotImage → List SlotImage
with_slot x xs = put slot_of same_pair pair_cmp pair_is pair_total pair_exact x xs

abbrev with_signature : SignatureImage → List SignatureImage → List SignatureImage
with_signature x xs = put signed_of nat_eq nat_cmp same_number nat_cmp_total exact_unsigned x xs

abbrev with_document : NameLine → List NameLine → List NameLine
with_document x xs = put name_of bytes_eq (slice_cmp nat_cmp) same_bytes nat_list_cmp_total exact_bytes x xs

-- what is said of what is found
said_found : {X V : Type 0} (val : X → V) (b : Bool) (x : X) (found : Option X) (before : Option V) → option_map val found ≡ before
    → option_map val (cond b (Some x) found) ≡ cond b (Some (val x)) before
said_found val true x found before is = refl
said_found val false x found before is = is

number_found : (n x : ℕ) (xs : List ℕ) (before : Bool) → list_any (nat_eq n) xs ≡ before
    → list_any (nat_eq n) (with_number x xs) ≡ cond (nat_eq x n) true before
number_found n x xs before is =
    any_found n (with_number x xs)
    ∙ (ap is_some (put_found itself nat_eq nat_cmp same_number nat_cmp_total exact_unsigned n x xs)
    ∙ of (nat_eq x n) (sym (any_found n xs) ∙ is))
  where
    of : (b : Bool) → is_some (find (λ y. nat_eq y n) xs) ≡ before → is_some (cond b (Some x) (find (λ y. nat_eq y n) xs)) ≡ cond b true before
    of true is = refl
    of false is = is

itself_mapped : (xs : List ℕ) → map itself xs ≡ xs
itself_mapped [] = refl
itself_mapped (x ∷ xs) = ap (λ t. x ∷ t) (itself_mapped xs)

number_rises : (x : ℕ) (xs : List ℕ) → IsStrictlySortedBy nat_cmp xs → IsStrictlySortedBy nat_cmp (with_number x xs)
number_rises x xs rise =
    subst (λ ys. IsStrictlySortedBy nat_cmp ys) (itself_mapped (with_number x xs))
    (put_rises itself nat_eq nat_cmp same_number nat_cmp_total exact_unsigned x xs (subst (λ ys. IsStrictlySortedBy nat_cmp ys) (sym (itself_mapped xs)) rise))

-- ---- a line more

none_held : HoldsWhat [] (map_of [] [] [] [] [] [] [] [] [] [] None false)
unfolding IsStrictlySortedBy
none_held = record {
  counts = λ table. refl;
  rows = λ table old. refl;
  crossed = λ table old. refl;
  gone = λ table old. refl;
  methods = λ method. refl;
  drops = λ method. refl;
  slotted = λ method. refl;
  slots = λ method old. refl;
  signatures = λ method. refl;
  documents = λ name. refl;
  link = refl;
  shares = refl;
  ascends = record { counts = tt; rows = tt; crossed = tt; gone = tt; methods = tt; drops = tt; slotted = tt; slots = tt; signatures = tt; documents = tt };
}

silent_held : (said : List Line) (m : Map) → HoldsWhat said m → HoldsWhat (Silent ∷ said) m
silent_held said m h = record {
  counts = h.counts;
  rows = h.rows;
  crossed = h.crossed;
  gone = h.gone;
  methods = h.methods;
  drops = h.drops;
  slotted = h.slotted;
  slots = h.slots;
  signatures = h.signatures;
  documents = h.documents;
  link = h.link;
  shares = h.shares;
  ascends = h.ascends;
}

rows_held : (said : List Line) (m : Map) (t n : ℕ) → HoldsWhat said m
    → HoldsWhat (Rows t n ∷ said) (record m { counts = with_count (record { table = t; rows = n }) m.counts })
rows_held said m t n h = record {
  counts = λ table.
      ap (option_map (λ (c : Count). c.rows))
      (put_found table_of nat_eq nat_cmp same_number nat_cmp_total exact_unsigned table (record { table = t; rows = n }) m.counts)
      ∙ said_found (λ (c : Count). c.rows) (nat_eq t table) (record { table = t; rows = n }) (find (λ c. nat_eq c.table table) m.counts) _ (h.counts table);
  rows = h.rows;
  crossed = h.crossed;
  gone = h.gone;
  methods = h.methods;
  drops = h.drops;
  slotted = h.slotted;
  slots = h.slots;
  signatures = h.signatures;
  documents = h.documents;
  link = h.link;
  shares = h.shares;
  ascends = record {
    counts = put_rises table_of nat_eq nat_cmp same_number nat_cmp_total exact_unsigned (record { table = t; rows = n }) m.counts h.ascends.counts;
    rows = h.ascends.rows;
    crossed = h.ascends.crossed;
    gone = h.ascends.gone;
    methods = h.ascends.methods;
    drops = h.ascends.drops;
    slotted = h.ascends.slotted;
    slots = h.ascends.slots;
    signatures = h.ascends.signatures;
    documents = h.ascends.documents;
  };
}

row_held : (said : List Line) (m : Map) (t o n : ℕ) → HoldsWhat said m
    → HoldsWhat (Row t o n ∷ said) (record m { rows = with_row (record { table = t; old = o; new = n }) m.rows })
row_held said m t o n h = record {
  counts = h.counts;
  rows = λ table old.
      ap (option_map (λ (r : RowLine). r.new))
      (put_found row_of same_pair pair_cmp pair_is pair_total pair_exact (table, old) (record { table = t; old = o; new = n }) m.rows)
      ∙ said_found (λ (r : RowLine). r.new) (same_pair (t, o) (table, old)) (record { table = t; old = o; new = n })
      (find (λ r. same_pair (row_of r) (table, old)) m.rows) _ (h.rows table old);
  crossed = h.crossed;
  gone = h.gone;
  methods = h.methods;
  drops = h.drops;
  slotted = h.slotted;
  slots = h.slots;
  signatures = h.signatures;
  documents = h.documents;
  link = h.link;
  shares = h.shares;
  ascends = record {
    counts = h.ascends.counts;
    rows = put_rises row_of same_pair pair_cmp pair_is pair_total pair_exact (record { table = t; old = o; new = n }) m.rows h.ascends.rows;
    crossed = h.ascends.crossed;
    gone = h.ascends.gone;
    methods = h.ascends.methods;
    drops = h.ascends.drops;
    slotted = h.ascends.slotted;
    slots = h.ascends.slots;
    signatures = h.ascends.signatures;
    documents = h.ascends.documents;
  };
}

cross_held : (said : List Line) (m : Map) (line : CrossLine) → HoldsWhat said m
    → HoldsWhat (Cross line ∷ said) (record m { crossed = with_cross line m.crossed })
cross_held said m line h = record {
  counts = h.counts;
  rows = h.rows;
  crossed = λ table old.
      put_found cross_of same_pair pair_cmp pair_is pair_total pair_exact (table, old) line m.crossed
      ∙ ap (cond (same_pair (cross_of line) (table, old)) (Some line)) (h.crossed table old);
  gone = h.gone;
  methods = h.methods;
  drops = h.drops;
  slotted = h.slotted;
  slots = h.slots;
  signatures = h.signatures;
  documents = h.documents;
  link = h.link;
  shares = h.shares;
  ascends = record {
    counts = h.ascends.counts;
    rows = h.ascends.rows;
    crossed = put_rises cross_of same_pair pair_cmp pair_is pair_total pair_exact line m.crossed h.ascends.crossed;
    gone = h.ascends.gone;
    methods = h.ascends.methods;
    drops = h.ascends.drops;
    slotted = h.ascends.slotted;
    slots = h.ascends.slots;
    signatures = h.ascends.signatures;
    documents = h.ascends.documents;
  };
}

gone_held : (said : List Line) (m : Map) (t o : ℕ) → HoldsWhat said m
    → HoldsWhat (Gone t o ∷ said) (record m { gone = with_gone (record { table = t; old = o }) m.gone })
gone_held said m t o h = record {
  counts = h.counts;
  rows = h.rows;
  crossed = h.crossed;
  gone = λ table old.
      any_is (λ (r : GoneLine). same_pair (gone_of r) (table, old)) (with_gone (record { table = t; old = o }) m.gone)
      ∙ ap is_some (put_found gone_of same_pair pair_cmp pair_is pair_total pair_exact (table, old) (record { table = t; old = o }) m.gone)
      ∙ of table old (same_pair (t, o) (table, old));
  methods = h.methods;
  drops = h.drops;
  slotted = h.slotted;
  slots = h.slots;
  signatures = h.signatures;
  documents = h.documents;
  link = h.link;
  shares = h.shares;
  ascends = record {
    counts = h.ascends.counts;
    rows = h.ascends.rows;
    crossed = h.ascends.crossed;
    gone = put_rises gone_of same_pair pair_cmp pair_is pair_total pair_exact (record { table = t; old = o }) m.gone h.ascends.gone;
    methods = h.ascends.methods;
    drops = h.ascends.drops;
    slotted = h.ascends.slotted;
    slots = h.ascends.slots;
    signatures = h.ascends.signatures;
    documents = h.ascends.documents;
  };
}
  where
    of : (table old : ℕ) (b : Bool)
        → is_some (cond b (Some (record { table = t; old = o })) (find (λ (r : GoneLine). same_pair (gone_of r) (table, old)) m.gone))
        ≡ cond b true (gone_in said table old)
    of table old true = refl
    of table old false = sym (any_is (λ (r : GoneLine). same_pair (gone_of r) (table, old)) m.gone) ∙ h.gone table old

-- a line of a method, in place of that which there was
line_held : (said more : List Line) (m : Map) (line : MethodLine) → HoldsWhat said m
    → ((k : ℕ) → find (λ l. nat_eq l.method k) (methods_of more) ≡ cond (nat_eq line.method k) (Some line) (find (λ l. nat_eq l.method k) (methods_of said)))
    → (method : ℕ) → method_line (record m { methods = with_line line m.methods }) method ≡ find (λ l. nat_eq l.method method) (methods_of more)
line_held said more m line h says method =
    put_found method_of nat_eq nat_cmp same_number nat_cmp_total exact_unsigned method line m.methods
    ∙ (ap (cond (nat_eq line.method method) (Some line)) (h.methods method) ∙ sym (says method))

with_line_ascends : (said : List Line) (m : Map) (line : MethodLine) → HoldsWhat said m
    → IsStrictlySortedBy nat_cmp (map method_of (with_line line m.methods))
with_line_ascends said m line h = put_rises method_of nat_eq nat_cmp same_number nat_cmp_total exact_unsigned line m.methods h.ascends.methods

method_held : (said : List Line) (m : Map) (k o n : ℕ) → HoldsWhat said m
    → HoldsWhat (Method k o n ∷ said) (record m { methods = with_line (record { method = k; old_size = o; new_size = n; runs = [] }) m.methods })
method_held said m k o n h = record {
  counts = h.counts;
  rows = h.rows;
  crossed = h.crossed;
  gone = h.gone;
  methods = line_held said (Method k o n ∷ said) m (record { method = k; old_size = o; new_size = n; runs = [] }) h (λ j. refl);
  drops = h.drops;
  slotted = h.slotted;
  slots = h.slots;
  signatures = h.signatures;
  documents = h.documents;
  link = h.link;
  shares = h.shares;
  ascends = record {
    counts = h.ascends.counts;
    rows = h.ascends.rows;
    crossed = h.ascends.crossed;
    gone = h.ascends.gone;
    methods = with_line_ascends said m (record { method = k; old_size = o; new_size = n; runs = [] }) h;
    drops = h.ascends.drops;
    slotted = h.ascends.slotted;
    slots = h.ascends.slots;
    signatures = h.ascends.signatures;
    documents = h.ascends.documents;
  };
}

drop_held : (said : List Line) (m : Map) (k : ℕ) → HoldsWhat said m → HoldsWhat (Dropped k ∷ said) (record m { drops = with_number k m.drops })
drop_held said m k h = record {
  counts = h.counts;
  rows = h.rows;
  crossed = h.crossed;
  gone = h.gone;
  methods = h.methods;
  drops = λ method. number_found method k m.drops _ (h.drops method);
  slotted = h.slotted;
  slots = h.slots;
  signatures = h.signatures;
  documents = h.documents;
  link = h.link;
  shares = h.shares;
  ascends = record {
    counts = h.ascends.counts;
    rows = h.ascends.rows;
    crossed = h.ascends.crossed;
    gone = h.ascends.gone;
    methods = h.ascends.methods;
    drops = number_rises k m.drops h.ascends.drops;
    slotted = h.ascends.slotted;
    slots = h.ascends.slots;
    signatures = h.ascends.signatures;
    documents = h.ascends.documents;
  };
}

slots_held : (said : List Line) (m : Map) (k : ℕ) → HoldsWhat said m → HoldsWhat (Slots k ∷ said) (record m { slotted = with_number k m.slotted })
slots_held said m k h = record {
  counts = h.counts;
  rows = h.rows;
  crossed = h.crossed;
  gone = h.gone;
  methods = h.methods;
  drops = h.drops;
  slotted = λ method. number_found method k m.slotted _ (h.slotted method);
  slots = h.slots;
  signatures = h.signatures;
  documents = h.documents;
  link = h.link;
  shares = h.shares;
  ascends = record {
    counts = h.ascends.counts;
    rows = h.ascends.rows;
    crossed = h.ascends.crossed;
    gone = h.ascends.gone;
    methods = h.ascends.methods;
    drops = h.ascends.drops;
    slotted = number_rises k m.slotted h.ascends.slotted;
    slots = h.ascends.slots;
    signatures = h.ascends.signatures;
    documents = h.ascends.documents;
  };
}

slot_held : (said : List Line) (m : Map) (k o n : ℕ) → HoldsWhat said m
    → HoldsWhat (Slot k o n ∷ said) (record m { slots = with_slot (record { method = k; old = o; new = n }) m.slots })
slot_held said m k o n h = record {
  counts = h.counts;
  rows = h.rows;
  crossed = h.crossed;
  gone = h.gone;
  methods = h.methods;
  drops = h.drops;
  slotted = h.slotted;
  slots = λ method old.
      ap (option_map (λ (s : SlotImage). s.new))
      (put_found slot_of same_pair pair_cmp pair_is pair_total pair_exact (method, old) (record { method = k; old = o; new = n }) m.slots)
      ∙ said_found (λ (s : SlotImage). s.new) (same_pair (k, o) (method, old)) (record { method = k; old = o; new = n })
      (find (λ s. same_pair (slot_of s) (method, old)) m.slots) _ (h.slots method old);
  signatures = h.signatures;
  documents = h.documents;
  link = h.link;
  shares = h.shares;
  ascends = record {
    counts = h.ascends.counts;
    rows = h.ascends.rows;
    crossed = h.ascends.crossed;
    gone = h.ascends.gone;
    methods = h.ascends.methods;
    drops = h.ascends.drops;
    slotted = h.ascends.slotted;
    slots = put_rises slot_of same_pair pair_cmp pair_is pair_total pair_exact (record { method = k; old = o; new = n }) m.slots h.ascends.slots;
    signatures = h.ascends.signatures;
    documents = h.ascends.documents;
  };
}

signature_held : (said : List Line) (m : Map) (k n : ℕ) → HoldsWhat said m
    → HoldsWhat (Signature k n ∷ said) (record m { signatures = with_signature (record { method = k; new = n }) m.signatures })
signature_held said m k n h = record {
  counts = h.counts;
  rows = h.rows;
  crossed = h.crossed;
  gone = h.gone;
  methods = h.methods;
  drops = h.drops;
  slotted = h.slotted;
  slots = h.slots;
  signatures = λ method.
      ap (option_map (λ (s : SignatureImage). s.new))
      (put_found signed_of nat_eq nat_cmp same_number nat_cmp_total exact_unsigned method (record { method = k; new = n }) m.signatures)
      ∙ said_found (λ (s : SignatureImage). s.new) (nat_eq k method) (record { method = k; new = n })
      (find (λ s. nat_eq s.method method) m.signatures) _ (h.signatures method);
  documents = h.documents;
  link = h.link;
  shares = h.shares;
  ascends = record {
    counts = h.ascends.counts;
    rows = h.ascends.rows;
    crossed = h.ascends.crossed;
    gone = h.ascends.gone;
    methods = h.ascends.methods;
    drops = h.ascends.drops;
    slotted = h.ascends.slotted;
    slots = h.ascends.slots;
    signatures = put_rises signed_of nat_eq nat_cmp same_number nat_cmp_total exact_unsigned (record { method = k; new = n }) m.signatures
        h.ascends.signatures;
    documents = h.ascends.documents;
  };
}

document_held : (said : List Line) (m : Map) (d : NameLine) → HoldsWhat said m
    → HoldsWhat (Document d ∷ said) (record m { documents = with_document d m.documents })
document_held said m d h = record {
  counts = h.counts;
  rows = h.rows;
  crossed = h.crossed;
  gone = h.gone;
  methods = h.methods;
  drops = h.drops;
  slotted = h.slotted;
  slots = h.slots;
  signatures = h.signatures;
  documents = λ name.
      ap (option_map (λ (d : NameLine). d.new))
      (put_found name_of bytes_eq (slice_cmp nat_cmp) same_bytes nat_list_cmp_total exact_bytes name d m.documents)
      ∙ said_found (λ (d : NameLine). d.new) (bytes_eq d.old name) d (find (λ d. bytes_eq d.old name) m.documents) _ (h.documents name);
  link = h.link;
  shares = h.shares;
  ascends = record {
    counts = h.ascends.counts;
    rows = h.ascends.rows;
    crossed = h.ascends.crossed;
    gone = h.ascends.gone;
    methods = h.ascends.methods;
    drops = h.ascends.drops;
    slotted = h.ascends.slotted;
    slots = h.ascends.slots;
    signatures = h.ascends.signatures;
    documents = put_rises name_of bytes_eq (slice_cmp nat_cmp) same_bytes nat_list_cmp_total exact_bytes d m.documents h.ascends.documents;
  };
}

link_held : (said : List Line) (m : Map) (value : List ℕ) → HoldsWhat said m → HoldsWhat (Link value ∷ said) (record m { link = Some value })
link_held said m value h = record {
  counts = h.counts;
  rows = h.rows;
  crossed = h.crossed;
  gone = h.gone;
  methods = h.methods;
  drops = h.drops;
  slotted = h.slotted;
  slots = h.slots;
  signatures = h.signatures;
  documents = h.documents;
  link = refl;
  shares = h.shares;
  ascends = record {
    counts = h.ascends.counts;
    rows = h.ascends.rows;
    crossed = h.ascends.crossed;
    gone = h.ascends.gone;
    methods = h.ascends.methods;
    drops = h.ascends.drops;
    slotted = h.ascends.slotted;
    slots = h.ascends.slots;
    signatures = h.ascends.signatures;
    documents = h.ascends.documents;
  };
}

shares_held : (said : List Line) (m : Map) → HoldsWhat said m → HoldsWhat (Shares ∷ said) (record m { shares = true })
shares_held said m h = record {
  counts = h.counts;
  rows = h.rows;
  crossed = h.crossed;
  gone = h.gone;
  methods = h.methods;
  drops = h.drops;
  slotted = h.slotted;
  slots = h.slots;
  signatures = h.signatures;
  documents = h.documents;
  link = h.link;
  shares = refl;
  ascends = record {
    counts = h.ascends.counts;
    rows = h.ascends.rows;
    crossed = h.ascends.crossed;
    gone = h.ascends.gone;
    methods = h.ascends.methods;
    drops = h.ascends.drops;
    slotted = h.ascends.slotted;
    slots = h.ascends.slots;
    signatures = h.ascends.signatures;
    documents = h.ascends.documents;
  };
}

-- a run goes to the last method, if there is one
run_held : (said : List Line) (m : Map) (run : Run) → HoldsWhat said m → (held : Map) × HoldsWhat (Kept run ∷ said) held
run_held said m run h = of (methods_of said) refl
  where
    twice : (b : Bool) (x y : MethodLine) (rest : Option MethodLine) → cond b (Some x) rest ≡ cond b (Some x) (cond b (Some y) rest)
    twice true x y rest = refl
    twice false x y rest = refl

    of : (lines : List MethodLine) → methods_of said ≡ lines → (held : Map) × HoldsWhat (Kept run ∷ said) held
    of [] is = (
      m,
      record {
        counts = h.counts;
        rows = h.rows;
        crossed = h.crossed;
        gone = h.gone;
        methods = λ method. h.methods method ∙ rw is refl;
        drops = h.drops;
        slotted = h.slotted;
        slots = h.slots;
        signatures = h.signatures;
        documents = h.documents;
        link = h.link;
        shares = h.shares;
        ascends = h.ascends;
      },
    )
    of (line ∷ lines) is =
        let longer : MethodLine = record line { runs = line.runs ++ run ∷ [] } in
        let says : (k : ℕ) → find (λ l. nat_eq l.method k) (methods_of (Kept run ∷ said))
        ≡ cond (nat_eq line.method k) (Some longer) (find (λ l. nat_eq l.method k) (methods_of said))
        = λ k. rw is (twice (nat_eq line.method k) longer line (find (λ l. nat_eq l.method k) lines)) in (
          record m { methods = with_line longer m.methods },
          record {
            counts = h.counts;
            rows = h.rows;
            crossed = h.crossed;
            gone = h.gone;
            methods = line_held said (Kept run ∷ said) m longer h says;
            drops = h.drops;
            slotted = h.slotted;
            slots = h.slots;
            signatures = h.signatures;
            documents = h.documents;
            link = h.link;
            shares = h.shares;
            ascends = record {
              counts = h.ascends.counts;
              rows = h.ascends.rows;
              crossed = h.ascends.crossed;
              gone = h.ascends.gone;
              methods = with_line_ascends said m longer h;
              drops = h.ascends.drops;
              slotted = h.ascends.slotted;
              slots = h.ascends.slots;
              signatures = h.ascends.signatures;
              documents = h.ascends.documents;
            };
          },
        )

pub held : (said : List Line) → (m : Map) × HoldsWhat said m
held [] = (map_of [] [] [] [] [] [] [] [] [] [] None false, none_held)
held (Silent ∷ said) = let m = held said in (m.0, silent_held said m.0 m.1)
held (Rows t n ∷ said) = let m = held said in (_, rows_held said m.0 t n m.1)
held (Row t o n ∷ said) = let m = held said in (_, row_held said m.0 t o n m.1)
held (Method k o n ∷ said) = let m = held said in (_, method_held said m.0 k o n m.1)
held (Kept run ∷ said) = let m = held said in run_held said m.0 run m.1
held (Dropped k ∷ said) = let m = held said in (_, drop_held said m.0 k m.1)
held (Slots k ∷ said) = let m = held said in (_, slots_held said m.0 k m.1)
held (Slot k o n ∷ said) = let m = held said in (_, slot_held said m.0 k o n m.1)
held (Signature k n ∷ said) = let m = held said in (_, signature_held said m.0 k n m.1)
held (Document d ∷ said) = let m = held said in (_, document_held said m.0 d m.1)
held (Link value ∷ said) = let m = held said in (_, link_held said m.0 value m.1)
held (Cross line ∷ said) = let m = held said in (_, cross_held said m.0 line m.1)
held (Gone t o ∷ said) = let m = held said in (_, gone_held said m.0 t o m.1)
held (Shares ∷ said) = let m = held said in (_, shares_held said m.0 m.1)
