-- The slots that a blob is read as are slots that can be written.
use Rattle.std.{proofs.Common.{◌≡◌, ℕ, zero, suc, ◌+◌, ◌<◌, Bool, true, false, ◌||◌, List, [], ◌∷◌, Option, sym, ap, subst, ◌∙◌, arith}, specs.Prelude.{All, nat_lt}}
use Rattle.std.{specs.Prelude.{◌==◌}, proofs.lemmas.Bool.{ltb-true}, proofs.lemmas.List.Elements.{All-push, All-nil}}
use Rattle.ppdb_base.specs.declared.BlobFault.{BlobFault}
use Rattle.blob_grammar.{specs.Grammar.{Value, number, integer, octets, Field, Cut, with_value, IsAllowed}, specs.Reading.{Reading}, proofs.ReadRecords.{of_reading}}
use Rattle.custom_info.specs.{declared.slots.Slot.{Slot}, HoistedScopes.{hoisted_scopes, IsSlot, is_length, slot_with}}

not-zero : (len : ℕ) → (suc len == 0) ≡ false
not-zero len = grind arith

slot-read : (start len : ℕ) → is_length start len ≡ true → IsSlot (slot_with start len)
slot-read start zero e = tt
slot-read start (suc len) e =
    let ends : Bool = nat_lt (start + suc len) 2147483648 in
    let below : start + suc len < 2147483648 = ltb-true (start + suc len) 2147483648 (sym (ap (λ b. b || ends) (not-zero len)) ∙ e) in (omega arith, below)

-- nothing has begun, or a start
abbrev Begun : List Value → Type 0
Begun [] = Unit {0}
Begun (number start ∷ []) = Unit {0}
Begun _ = ⊥

abbrev Holds : Cut Slot → Type 0
Holds c = All IsSlot c.whole × Begun c.begun

one : (whole : List Slot) (begun : List Value) (bytes : List ℕ) (value : Value) (after : List ℕ)
    → IsAllowed hoisted_scopes (record { whole = whole; begun = begun }) (record { bytes = bytes; value = value }) after
    → All IsSlot whole → Begun begun → Holds (with_value hoisted_scopes (record { whole = whole; begun = begun }) value)
one whole [] bytes (number start) after a h b = (h, tt)
one whole [] bytes (integer z) after a h b = let e : false ≡ true = a.allowed in absurd cc
one whole [] bytes (octets xs) after a h b = let e : false ≡ true = a.allowed in absurd cc
one whole (number start ∷ []) bytes (number len) after a h b = (All-push IsSlot whole (slot_with start len) h (slot-read start len a.allowed), tt)
one whole (number start ∷ []) bytes (integer z) after a h b = let e : false ≡ true = a.allowed in absurd cc
one whole (number start ∷ []) bytes (octets xs) after a h b = let e : false ≡ true = a.allowed in absurd cc
one whole (number start ∷ x ∷ xs) bytes value after a h b = absurd b
one whole (integer z ∷ xs) bytes value after a h b = absurd b
one whole (octets o ∷ xs) bytes value after a h b = absurd b

kept : (c : Cut Slot) (f : Field) (after : List ℕ) → IsAllowed hoisted_scopes c f after → Holds c → Holds (with_value hoisted_scopes c f.value)
kept c f after a h = one c.whole c.begun f.bytes f.value after a h.0 h.1

pub read_slots : (blob : List ℕ) (slots : List Slot) (fault : Option BlobFault) → Reading hoisted_scopes blob slots fault → All IsSlot slots
read_slots blob slots fault r =
    subst (λ (xs : List Slot). All IsSlot xs) (sym r.made) (of_reading hoisted_scopes Holds kept (All-nil IsSlot, tt) blob slots fault r).0
