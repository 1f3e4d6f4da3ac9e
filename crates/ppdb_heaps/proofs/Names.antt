-- How a document name is read, a field at a time.
use Rattle.std.proofs.Common.{◌≡◌, ℕ, zero, suc, ◌+◌, ◌≤◌, Bool, true, false, ◌&&◌, List, [], ◌∷◌, ◌++◌, length, take, drop, Option, Some, None, Result, Ok, Err}
use Rattle.std.{proofs.Common.{refl, sym, ap, subst, ◌∙◌, zero-add, arith, ◌⊎◌, inl, inr, if◌then◌else◌}, specs.Prelude.{◌==◌, is_some, option_map}}
use Rattle.std.proofs.lemmas.{Bool.{cases_lt, eq-eqb, ne_eqb, and_right, and_left}, List.{drop_all, drop-drop}}
use Rattle.ppdb_base.specs.declared.{Code.{Code}, Code.TheVariants.{ValueRange, BlobEnd}, BlobFault.{BlobFault}}
use Rattle.blob_grammar.specs.{Grammar.{Value, number, octets, Form, character, unsigned, Cut, closed}, declared.places.PlacedIndex.{PlacedIndex}}
use Rattle.blob_grammar.{specs.Places.{HasFields, HasEnd}, proofs.Walks.{walk-field, walk-out, walk-none, walk-end, walk-fields, walk-end_is, fields_left-alike}}
use Rattle.blob_grammar.{proofs.Walks.{alike-begun, SameBegun}, specs.Reading.{Reading}, specs.Reader.{Left, push, placed, unsigned_at, character_of, character_len}}
use Rattle.blob_grammar.{specs.Reader.{IsThere, IsMissing, is_empty, read_from, close_and, fields_left}, proofs.Readers.{read_from-reads}}
use Rattle.blob_grammar.proofs.{Placed.{unsigned_there, unsigned_not_there, placed_ok, unsigned_within}, Steps.{Alike, read_from-alike, nothing_left, left_at}}
use Rattle.blob_grammar.proofs.Steps.{left-field, left-out, left-none, left-end, not_empty}
use Rattle.ppdb_heaps.specs.{Heaps.{blob_at}, Names.{NamePart, separator, part, form, allows, part_of, may_stop, names, part_index, without_zero, contents_of}}
use Rattle.ppdb_heaps.specs.{Names.{NameReading}, Cursor.{before_place, contents_left, parts_left, indexes_left}}

-- ---- what the grammar asks of the records before

-- No record, the separator alone, or some part too.
abbrev pub kind : List NamePart → ℕ
kind [] = 0
kind (first ∷ []) = 1
kind (first ∷ second ∷ others) = 2

abbrev SameKind : List NamePart → List NamePart → Type 0
SameKind a b = kind a ≡ kind b

abbrev form_by : ℕ → Option Form
form_by zero = Some character
form_by (suc k) = Some unsigned

form-kind : (a : List NamePart) (vs : List Value) → form a vs ≡ form_by (kind a)
form-kind [] vs = refl
form-kind (x ∷ []) vs = refl
form-kind (x ∷ y ∷ a) vs = refl

allows-kind : (blobs : List ℕ) (a b : List NamePart) (vs : List Value) (v : Value) → kind a ≡ kind b → allows blobs a vs v ≡ allows blobs b vs v
allows-kind blobs [] [] vs v e = refl
allows-kind blobs [] (y ∷ []) vs v e = absurd (omega arith)
allows-kind blobs [] (y ∷ z ∷ b) vs v e = absurd (omega arith)
allows-kind blobs (x ∷ []) [] vs v e = absurd (omega arith)
allows-kind blobs (x ∷ w ∷ a) [] vs v e = absurd (omega arith)
allows-kind blobs (x ∷ a) (y ∷ b) vs (number n) e = refl
allows-kind blobs (x ∷ a) (y ∷ b) vs (octets xs) e = refl
allows-kind blobs (x ∷ a) (y ∷ b) vs _ e = refl

part-kind : (blobs : List ℕ) (a b : List NamePart) (vs : List Value) → kind a ≡ kind b → part_of blobs a vs ≡ part_of blobs b vs
part-kind blobs [] [] vs e = refl
part-kind blobs [] (y ∷ []) vs e = absurd (omega arith)
part-kind blobs [] (y ∷ z ∷ b) vs e = absurd (omega arith)
part-kind blobs (x ∷ []) [] vs e = absurd (omega arith)
part-kind blobs (x ∷ w ∷ a) [] vs e = absurd (omega arith)
part-kind blobs (x ∷ a) (y ∷ b) [] e = refl
part-kind blobs (x ∷ a) (y ∷ b) (number n ∷ []) e = refl
part-kind blobs (x ∷ a) (y ∷ b) (octets xs ∷ []) e = refl
part-kind blobs (x ∷ a) (y ∷ b) _ e = refl

abbrev stop_by : ℕ → List Value → Bool
stop_by (suc (suc k)) [] = true
stop_by _ _ = false

stop-kind : (a : List NamePart) (vs : List Value) → may_stop a vs ≡ stop_by (kind a) vs
stop-kind [] vs = refl
stop-kind (x ∷ []) vs = refl
stop-kind (x ∷ y ∷ a) [] = refl
stop-kind (x ∷ y ∷ a) (v ∷ vs) = refl

abbrev kind_after : ℕ → ℕ
kind_after zero = 1
kind_after (suc k) = 2

push-kind : (a : List NamePart) (r : NamePart) → kind (a ++ r ∷ []) ≡ kind_after (kind a)
push-kind [] r = refl
push-kind (x ∷ []) r = refl
push-kind (x ∷ y ∷ []) r = refl
push-kind (x ∷ y ∷ z ∷ a) r = refl

names-alike : (blobs : List ℕ) → Alike (names blobs) (names blobs) SameKind
names-alike blobs = record {
  form = λ a b vs e. form-kind a vs ∙ ap form_by e ∙ sym (form-kind b vs);
  allows = λ a b vs v e. allows-kind blobs a b vs v e;
  record_of = λ a b vs e. part-kind blobs a b vs e;
  may_stop = λ a b vs e. stop-kind a vs ∙ ap (λ k. stop_by k vs) e ∙ sym (stop-kind b vs);
  push = λ a b r e. push-kind a r ∙ ap kind_after e ∙ sym (push-kind b r);
}

-- ---- the records that stand for those before a place

abbrev before_if : Bool → List NamePart
before_if b = if b then separator [] ∷ [] else separator [] ∷ part [] ∷ []

if-form : (b : Bool) → form (before_if b) [] ≡ Some unsigned
if-form true = refl
if-form false = refl

if-allows : (blobs : List ℕ) (b : Bool) (n : ℕ) → allows blobs (before_if b) [] (number n) ≡ is_some (blob_at blobs n)
if-allows blobs true n = refl
if-allows blobs false n = refl

if-part : (blobs : List ℕ) (b : Bool) (n : ℕ) → part_of blobs (before_if b) (number n ∷ []) ≡ option_map (λ content. part content) (blob_at blobs n)
if-part blobs true n = refl
if-part blobs false n = refl

if-more : (b : Bool) (r : NamePart) → kind (before_if b ++ r ∷ []) ≡ 2
if-more true r = refl
if-more false r = refl

before-later : (start at : ℕ) → (at ≡ start → ⊥) → before_place start at ≡ separator [] ∷ part [] ∷ []
before-later start at later = rw (ne_eqb at start later) refl

before-first : (start at : ℕ) → at ≡ start → before_place start at ≡ separator [] ∷ []
before-first start at first = rw (eq-eqb at start first) refl

-- ---- the next part

-- A whole name ends after a part.
pub part-end : (blobs blob : List ℕ) (start at : ℕ) → at ≡ length blob → (at ≡ start → ⊥) → parts_left blobs blob start at ≡ nothing_left None
unfolding parts_left
part-end blobs blob start at ends later =
    ap contents_left (left-end (names blobs) (before_place start at) [] blob at unsigned (if-form (at == start)) ends (ap (λ b. may_stop b [])
    (before-later start at later)))

-- A name does not end before its first part.
stays : (blob : List ℕ) (start at : ℕ) → at ≤ length blob → (at ≡ length blob → at ≡ start) → (is_empty (drop at blob) && may_stop (before_place start at) [])
    ≡ false
stays blob start at within goes_on =
    elim (cases_lt at (length blob)) [
      | inl less ↦ and_left (is_empty (drop at blob)) (may_stop (before_place start at) []) (not_empty blob at less)
      | inr past ↦ and_right (is_empty (drop at blob)) (may_stop (before_place start at) [])
          (ap (λ b. may_stop b []) (before-first start at (goes_on (omega arith))))
    ]

-- No index stands there.
pub part-missing : (blobs blob : List ℕ) (start at : ℕ) (fault : BlobFault) → at ≤ length blob → (at ≡ length blob → at ≡ start)
    → placed at (unsigned_at (drop at blob)) ≡ Err fault
    → parts_left blobs blob start at ≡ nothing_left (Some fault)
unfolding parts_left
part-missing blobs blob start at fault within goes_on e =
    let n = unsigned_not_there at (drop at blob) fault e in
    ap contents_left (left-none (names blobs) (before_place start at) [] blob at unsigned n.code (if-form (at == start)) n.none
    (stays blob start at within goes_on)) ∙ ap (λ f. nothing_left (Some f)) (sym n.fault_is)

-- The index of a part that is not there.
pub part-absent : (blobs blob : List ℕ) (start at index len : ℕ) → placed at (unsigned_at (drop at blob)) ≡ Ok (index, len) → blob_at blobs index ≡ None
    → parts_left blobs blob start at ≡ nothing_left (Some (record { code = ValueRange; byte = at }))
unfolding parts_left
part-absent blobs blob start at index len e absent =
    ap contents_left
    (left-out (names blobs) (before_place start at) [] blob at unsigned (number index) len (if-form (at == start))
    (unsigned_there at (drop at blob) index len e) (if-allows blobs (at == start) index ∙ ap is_some absent))

-- A part.
pub part-there : (blobs blob : List ℕ) (start at index len : ℕ) (content : List ℕ) → start ≤ at → placed at (unsigned_at (drop at blob)) ≡ Ok (index, len)
    → blob_at blobs index ≡ Some content
    → parts_left blobs blob start at ≡ push content (parts_left blobs blob start (at + len))
unfolding parts_left
part-there blobs blob start at index len content begun e there =
    let g = names blobs in
    let before = before_place start at in
    let found = unsigned_there at (drop at blob) index len e in
    let made : part_of blobs before (number index ∷ []) ≡ Some (part content) =
    if-part blobs (at == start) index ∙ ap (option_map (λ content. part content)) there in
    let wide = unsigned_within (drop at blob) (index, len) (placed_ok at (unsigned_at (drop at blob)) (index, len) e) in
    let later : at + len ≡ start → ⊥ = λ q. omega (arith, wide.0) in
    let same : kind (before ++ part content ∷ []) ≡ kind (before_place start (at + len)) =
    if-more (at == start) (part content) ∙ sym (ap kind (before-later start (at + len) later)) in
    ap contents_left
    (left-field g before [] blob at unsigned (number index) len (if-form (at == start)) found (if-allows blobs (at == start) index ∙ ap is_some there)
    ∙ ap (close_and (λ w b. left_at g w b blob (at + len)) before (number index ∷ [])) made
    ∙ ap (push (part content)) (read_from-alike g g SameKind (names-alike blobs) (before ++ part content ∷ []) (before_place start (at + len)) [] (at + len)
    (drop (at + len) blob) same))

-- ---- the next index

abbrev start_of : ℕ → ℕ → Cut NamePart
start_of start at = record { whole = before_place start at; begun = [] }

pub index-end : (blobs blob : List ℕ) (start at : ℕ) → at ≡ length blob → (at ≡ start → ⊥) → indexes_left blobs blob start at ≡ nothing_left None
unfolding indexes_left unsigned_at
index-end blobs blob start at ends later =
    ap (fields_left (names blobs) part_index (start_of start at) at) (drop_all at blob (omega arith))
    ∙ walk-end (names blobs) part_index (start_of start at) at unsigned BlobEnd (if-form (at == start)) refl (ap (λ b. may_stop b [])
    (before-later start at later))

pub index-missing : (blobs blob : List ℕ) (start at : ℕ) (fault : BlobFault) → at ≤ length blob → (at ≡ length blob → at ≡ start)
    → placed at (unsigned_at (drop at blob)) ≡ Err fault
    → indexes_left blobs blob start at ≡ nothing_left (Some fault)
unfolding indexes_left
index-missing blobs blob start at fault within goes_on e =
    let n = unsigned_not_there at (drop at blob) fault e in
    walk-none (names blobs) part_index (start_of start at) at (drop at blob) unsigned n.code (if-form (at == start)) n.none (stays blob start at within goes_on)
    ∙ ap (λ f. nothing_left (Some f)) (sym n.fault_is)

pub index-absent : (blobs blob : List ℕ) (start at index len : ℕ) → placed at (unsigned_at (drop at blob)) ≡ Ok (index, len) → blob_at blobs index ≡ None
    → indexes_left blobs blob start at ≡ nothing_left (Some (record { code = ValueRange; byte = at }))
unfolding indexes_left
index-absent blobs blob start at index len e absent =
    walk-out (names blobs) part_index (start_of start at) at (drop at blob) unsigned (number index) len (if-form (at == start))
    (unsigned_there at (drop at blob) index len e) (if-allows blobs (at == start) index ∙ ap is_some absent)

pub index-there : (blobs blob : List ℕ) (start at index len : ℕ) (content : List ℕ) → start ≤ at → placed at (unsigned_at (drop at blob)) ≡ Ok (index, len)
    → blob_at blobs index ≡ Some content
    → indexes_left blobs blob start at ≡ push (record { byte = at; index = index }) (indexes_left blobs blob start (at + len))
unfolding indexes_left
index-there blobs blob start at index len content begun e there =
    let g = names blobs in
    let before = before_place start at in
    let found = unsigned_there at (drop at blob) index len e in
    let made : part_of blobs before (number index ∷ []) ≡ Some (part content) =
    if-part blobs (at == start) index ∙ ap (option_map (λ content. part content)) there in
    let wide = unsigned_within (drop at blob) (index, len) (placed_ok at (unsigned_at (drop at blob)) (index, len) e) in
    let later : at + len ≡ start → ⊥ = λ q. omega (arith, wide.0) in
    let same : kind (before ++ part content ∷ []) ≡ kind (before_place start (at + len)) =
    if-more (at == start) (part content) ∙ sym (ap kind (before-later start (at + len) later)) in
    let next : Cut NamePart = record { whole = before ++ part content ∷ []; begun = [] } in
    walk-field g part_index (start_of start at) at (drop at blob) unsigned (number index) len (if-form (at == start)) found (if-allows blobs (at == start) index
    ∙ ap is_some there)
    ∙ ap (λ (c : Cut NamePart). push (record { byte = at; index = index }) (fields_left g part_index c (at + len) (drop len (drop at blob))))
    (ap (λ o. closed o before (number index ∷ [])) made)
    ∙ ap (push (record { byte = at; index = index }))
    (fields_left-alike g part_index (SameBegun g part_index SameKind) (alike-begun g part_index SameKind (names-alike blobs)) next (start_of start (at + len))
    (at + len) (drop len (drop at blob)) (same, refl)
    ∙ ap (fields_left g part_index (start_of start (at + len)) (at + len)) (drop-drop len at blob))

pub stays_at : (at end start : ℕ) → ((at ≡ end) × (at ≡ start)) ⊎ (at ≡ end → ⊥) → at ≡ end → at ≡ start
stays_at at end start (inl h) e = h.1
stays_at at end start (inr h) e = absurd (h e)

-- ---- the separator

-- Nothing of a name is there without its separator.
pub separator-missing : (blobs blob : List ℕ) (fault : BlobFault) → IsMissing character blob 0 fault → Reading (names blobs) blob [] (Some fault)
separator-missing blobs blob fault h =
    let g = names blobs in
    let e : read_from g [] [] 0 blob ≡ nothing_left (Some fault) =
    left-none g [] [] blob 0 character h.code refl h.none (and_right (is_empty (drop 0 blob)) false refl) ∙ ap (λ f. nothing_left (Some f)) (sym h.fault_is) in
    subst (λ (l : Left NamePart). Reading g blob l.items l.fault) e (read_from-reads g blob)

pair-of : (x y : Value × ℕ) → let ok : Value × ℕ → Result (Value × ℕ) Code = λ p. Ok p in ok x ≡ ok y → x ≡ y
pair-of x y e = cc

bytes-of : (xs ys : List ℕ) → octets xs ≡ octets ys → xs ≡ ys
bytes-of xs ys e = cc

taken : (blob bytes : List ℕ) (n len : ℕ) → character_of blob n ≡ Ok (octets bytes, len) → bytes ≡ take len blob
taken [] bytes n len e = absurd cc
taken (b ∷ blob) bytes zero len e = absurd cc
taken (b ∷ blob) bytes (suc n) len e =
    let p : (octets (take (suc n) (b ∷ blob)), suc n) ≡ (octets bytes, len) = pair-of (octets (take (suc n) (b ∷ blob)), suc n) (octets bytes, len) e in
    let t : take (suc n) (b ∷ blob) ≡ bytes = bytes-of (take (suc n) (b ∷ blob)) bytes (ap (λ (x : Value × ℕ). x.0) p) in
    let l : suc n ≡ len = ap (λ (x : Value × ℕ). x.1) p in
    sym t ∙ ap (λ k. take k (b ∷ blob)) l

-- After its separator a name has the parts that are left there.
pub separator-there : (blobs blob bytes : List ℕ) (len : ℕ) → IsThere character blob 0 (octets bytes) len
    → NameReading blobs blob (without_zero (take len blob)) (parts_left blobs blob len len).items (parts_left blobs blob len len).fault
unfolding parts_left
separator-there blobs blob bytes len h =
    let g = names blobs in
    let first = separator bytes ∷ [] in
    let left = left_at g first [] blob len in
    let e : read_from g [] [] 0 blob ≡ push (separator bytes) left =
    left-field g [] [] blob 0 character (octets bytes) len refl h.0 refl ∙ ap (λ n. push (separator bytes) (left_at g first [] blob n)) (zero-add len) in
    let same : kind first ≡ kind (before_place len len) = sym (ap kind (before-first len len refl)) in
    let alike : left ≡ left_at g (before_place len len) [] blob len =
    read_from-alike g g SameKind (names-alike blobs) first (before_place len len) [] len (drop len blob) same in
    record {
      bytes = bytes;
      parts = left.items;
      reading = subst (λ f. Reading g blob (separator bytes ∷ left.items) f) (ap (λ l. l.fault) alike)
          (subst (λ (l : Left NamePart). Reading g blob l.items l.fault) e (read_from-reads g blob));
      separator_is = ap without_zero (sym (taken blob bytes (character_len blob) len h.0));
      contents_are = ap (λ l. contents_of l.items) (sym alike);
    }

-- After its separator a name has the indexes that are left there.
indexes_begun : (blobs blob bytes : List ℕ) (len : ℕ) → IsThere character blob 0 (octets bytes) len
    → fields_left (names blobs) part_index (record { whole = []; begun = [] }) 0 blob ≡ indexes_left blobs blob len len
unfolding indexes_left
indexes_begun blobs blob bytes len h =
    let g = names blobs in
    let first : Cut NamePart = record { whole = separator bytes ∷ []; begun = [] } in
    let same : kind (separator bytes ∷ []) ≡ kind (before_place len len) = sym (ap kind (before-first len len refl)) in
    walk-field g part_index (record { whole = []; begun = [] }) 0 blob character (octets bytes) len refl h.0 refl
    ∙ ap (λ n. fields_left g part_index first n (drop len blob)) (zero-add len)
    ∙ fields_left-alike g part_index (SameBegun g part_index SameKind) (alike-begun g part_index SameKind (names-alike blobs)) first (start_of len len) len
    (drop len blob) (same, refl)

pub indexes-there : (blobs blob bytes : List ℕ) (len : ℕ) → IsThere character blob 0 (octets bytes) len
    → HasFields (names blobs) part_index blob (indexes_left blobs blob len len).items
indexes-there blobs blob bytes len h = subst (λ (l : Left PlacedIndex). HasFields (names blobs) part_index blob l.items) (indexes_begun blobs blob bytes len h)
    (walk-fields (names blobs) part_index blob)

pub indexes-end : (blobs blob bytes : List ℕ) (len : ℕ) → IsThere character blob 0 (octets bytes) len
    → HasEnd (names blobs) blob (indexes_left blobs blob len len).fault
indexes-end blobs blob bytes len h =
    subst (λ (l : Left PlacedIndex). HasEnd (names blobs) blob l.fault) (indexes_begun blobs blob bytes len h) (walk-end_is (names blobs) part_index blob)

no_index : (blobs blob : List ℕ) (fault : BlobFault) → IsMissing character blob 0 fault
    → fields_left (names blobs) part_index (record { whole = []; begun = [] }) 0 blob ≡ nothing_left (Some fault)
no_index blobs blob fault h =
    walk-none (names blobs) part_index (record { whole = []; begun = [] }) 0 blob character h.code refl h.none (and_right (is_empty blob) false refl)
    ∙ ap (λ f. nothing_left (Some f)) (sym h.fault_is)

pub indexes-none : (blobs blob : List ℕ) (fault : BlobFault) → IsMissing character blob 0 fault → HasFields (names blobs) part_index blob []
indexes-none blobs blob fault h =
    subst (λ (l : Left PlacedIndex). HasFields (names blobs) part_index blob l.items) (no_index blobs blob fault h) (walk-fields (names blobs) part_index blob)

pub indexes-fault : (blobs blob : List ℕ) (fault : BlobFault) → IsMissing character blob 0 fault → HasEnd (names blobs) blob (Some fault)
indexes-fault blobs blob fault h = ([], separator-missing blobs blob fault h)
