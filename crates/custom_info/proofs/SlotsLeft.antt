-- What a cursor of hoisted scopes has left, a field at a time.
use Rattle.std.proofs.Common.{◌≡◌, ℕ, zero, suc, ◌+◌, ◌<◌, true, ◌&&◌, List, [], ◌∷◌, length, drop, Some, None, Ok, Err, refl, sym, ap, ◌∙◌}
use Rattle.ppdb_base.specs.declared.BlobFault.{BlobFault}
use Rattle.blob_grammar.{specs.Grammar.{number, word}, specs.Reading.{Reading}, specs.Reader.{placed, word_at, push, is_empty}, proofs.Placed.{word_there}}
use Rattle.blob_grammar.proofs.{Placed.{word_not_there}, Readers.{read_from-reads}, Steps.{Alike, read_from-alike, nothing_left, left_at, left-field, left-none}}
use Rattle.blob_grammar.proofs.Steps.{left-end, not_empty}
use Rattle.custom_info.specs.{declared.slots.Slot.{Slot}, declared.slots.Slot.TheVariants.{Held}, Fields.{checked}, HoistedScopes.{hoisted_scopes, slots_left}}
use Rattle.custom_info.{specs.HoistedScopes.{slot_with, is_length}, proofs.Checked.{left-kept, left-refused, and-false}}

Any : List Slot → List Slot → Type 0
Any a b = Unit {0}

-- the grammar asks nothing of the slots before
alike : Alike hoisted_scopes hoisted_scopes Any
unfolding Any
alike = record { form = λ a b vs e. refl; allows = λ a b vs v e. refl; record_of = λ a b vs e. refl; may_stop = λ a b vs e. refl; push = λ a b r e. tt }

pub at_end : (blob : List ℕ) (at : ℕ) → at ≡ length blob → slots_left blob at ≡ nothing_left None
unfolding slots_left
at_end blob at e = left-end hoisted_scopes [] [] blob at word refl e refl

pub no_start : (blob : List ℕ) (at : ℕ) (fault : BlobFault) → at < length blob → placed at (word_at (drop at blob)) ≡ Err fault
    → slots_left blob at ≡ nothing_left (Some fault)
unfolding slots_left
no_start blob at fault less e =
    let n = word_not_there at (drop at blob) fault e in
    left-none hoisted_scopes [] [] blob at word n.code refl n.none (ap (λ b. b && true) (not_empty blob at less))
    ∙ ap (λ f. nothing_left (Some f)) (sym n.fault_is)

start_in : (blob : List ℕ) (at start len : ℕ) → placed at (word_at (drop at blob)) ≡ Ok (start, len)
    → slots_left blob at ≡ left_at hoisted_scopes [] (number start ∷ []) blob (at + len)
unfolding slots_left
start_in blob at start len e = left-field hoisted_scopes [] [] blob at word (number start) len refl (word_there at (drop at blob) start len e) refl

pub no_length : (blob : List ℕ) (at start len : ℕ) (fault : BlobFault) → placed at (word_at (drop at blob)) ≡ Ok (start, len)
    → checked (is_length start) (at + len) (placed (at + len) (word_at (drop (at + len) blob))) ≡ Err fault → slots_left blob at ≡ nothing_left (Some fault)
no_length blob at start len fault s e =
    start_in blob at start len s
    ∙ left-refused hoisted_scopes [] (number start ∷ []) blob (at + len) word (word_at (drop (at + len) blob)) fault refl refl
    (and-false (is_empty (drop (at + len) blob))) e

pub a_slot : (blob : List ℕ) (at start len size more : ℕ) → placed at (word_at (drop at blob)) ≡ Ok (start, len)
    → checked (is_length start) (at + len) (placed (at + len) (word_at (drop (at + len) blob))) ≡ Ok (size, more)
    → slots_left blob at ≡ push (slot_with start size) (slots_left blob (at + len + more))
unfolding slots_left Any
a_slot blob at start len size more s e =
    start_in blob at start len s
    ∙ left-kept hoisted_scopes [] (number start ∷ []) blob (at + len) word (word_at (drop (at + len) blob)) size more refl refl e
    ∙ ap (push (slot_with start size)) (read_from-alike hoisted_scopes hoisted_scopes Any alike (slot_with start size ∷ []) [] [] (at + len + more)
    (drop (at + len + more) blob) tt)

-- a slot whose length is not 0
pub held : (start size : ℕ) → (size ≡ 0 → ⊥) → slot_with start size ≡ Held (record { start = start; end = start + size })
held start zero e = absurd (e refl)
held start (suc n) e = refl

pub slots_left-reads : (blob : List ℕ) → Reading hoisted_scopes blob (slots_left blob 0).items (slots_left blob 0).fault
unfolding slots_left
slots_left-reads blob = read_from-reads hoisted_scopes blob
