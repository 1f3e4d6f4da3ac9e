-- What slots_into writes is read again.
use Rattle.std.{proofs.Common.{◌≡◌, ℕ, ◌+◌, ◌-◌, ◌<◌, true, List, [], ◌∷◌, ◌++◌, None, refl, sym, ap, subst, ◌∙◌, arith}, specs.Prelude.{All, flat_map}}
use Rattle.std.{specs.Int.{w32, to_le_bytes}, proofs.lemmas.List.Elements.{All-head, All-tail}, proofs.lemmas.Nat.{from_le_bytes-to_le_bytes_4}}
use Rattle.blob_grammar.{specs.Grammar.{number, word, Field, bytes_of}, specs.Reading.{Reading}, proofs.Written.{Writes, EachMayAdd, fields_after, records_read}}
use Rattle.custom_info.specs.{declared.slots.Slot.{Slot}, declared.slots.Slot.TheVariants.{Empty, Held}, HoistedScopes.{hoisted_scopes, IsSlot, is_length}}
use Rattle.custom_info.{specs.HoistedScopes.{slot_with, slot_spelling}, proofs.SlotsLeft.{held}}

-- the start and the length of a slot, as they are written
abbrev start_of : Slot → ℕ
start_of Empty = 0
start_of (Held range) = range.start

abbrev length_of : Slot → ℕ
length_of Empty = 0
length_of (Held range) = range.end - range.start

abbrev pub word_field : ℕ → Field
word_field n = record { bytes = to_le_bytes w32 n; value = number n }

abbrev fields_of : List Slot → Slot → List Field
fields_of whole slot = word_field (start_of slot) ∷ word_field (length_of slot) ∷ []

abbrev MayAdd : List Slot → Slot → Type 0
MayAdd whole slot = IsSlot slot

start_fits : (slot : Slot) → IsSlot slot → start_of slot < 4294967296
start_fits Empty h = omega arith
start_fits (Held range) h = let a : range.start < range.end = h.0 in let b : range.end < 2147483648 = h.1 in omega arith

length_fits : (slot : Slot) → IsSlot slot → length_of slot < 4294967296
length_fits Empty h = omega arith
length_fits (Held range) h = let a : range.start < range.end = h.0 in let b : range.end < 2147483648 = h.1 in omega arith

in_range : (start len : ℕ) → start + len < 2147483648 → is_length start len ≡ true
in_range start len h = grind arith

length_allowed : (slot : Slot) → IsSlot slot → is_length (start_of slot) (length_of slot) ≡ true
length_allowed Empty h = refl
length_allowed (Held range) h =
    let a : range.start < range.end = h.0 in let b : range.end < 2147483648 = h.1 in in_range range.start (range.end - range.start) (omega arith)

same_slot : (slot : Slot) → IsSlot slot → slot_with (start_of slot) (length_of slot) ≡ slot
same_slot Empty h = refl
same_slot (Held range) h =
    let a : range.start < range.end = h.0 in
    let b : range.start + (range.end - range.start) ≡ range.end = omega arith in
    held range.start (range.end - range.start) (λ e. omega arith) ∙ ap (λ (n : ℕ). Held (record { start = range.start; end = n })) b

writes : Writes hoisted_scopes fields_of MayAdd
writes = record {
  follow = λ whole slot left h. (
    record { form = word; expected = refl; spelled = (refl, sym (from_le_bytes-to_le_bytes_4 (start_of slot) (start_fits slot h))); allowed = refl },
    (
      record {
        form = word;
        expected = refl;
        spelled = (refl, sym (from_le_bytes-to_le_bytes_4 (length_of slot) (length_fits slot h)));
        allowed = length_allowed slot h;
      },
      tt,
    ),
  );
  makes = λ whole slot h. ap (λ (s : Slot). record { whole = whole ++ s ∷ []; begun = [] }) (same_slot slot h);
}

each : (whole slots : List Slot) → All IsSlot slots → EachMayAdd MayAdd whole slots
each whole [] h = tt
each whole (slot ∷ slots) h = (All-head IsSlot slot slots h, each (whole ++ slot ∷ []) slots (All-tail IsSlot slot slots h))

spelled : (whole slots : List Slot) → bytes_of (fields_after fields_of whole slots) ≡ flat_map slot_spelling slots
spelled whole [] = refl
spelled whole (Empty ∷ slots) = ap (λ bs. slot_spelling Empty ++ bs) (spelled (whole ++ Empty ∷ []) slots)
spelled whole (Held range ∷ slots) = ap (λ bs. slot_spelling (Held range) ++ bs) (spelled (whole ++ Held range ∷ []) slots)

pub written_slots : (slots : List Slot) → All IsSlot slots → Reading hoisted_scopes (flat_map slot_spelling slots) slots None
written_slots slots h =
    subst (λ blob. Reading hoisted_scopes blob slots None) (spelled [] slots) (records_read hoisted_scopes fields_of MayAdd writes slots (each [] slots h) refl)
