-- The rows that a blob is read as are there, and have a spelling.
use Rattle.std.{proofs.Common.{◌≡◌, ℕ, ◌≤◌, true, false, List, [], ◌∷◌, Option, Some, sym, subst}, specs.Prelude.{All, nat_le}, proofs.lemmas.Bool.{and_parts}}
use Rattle.std.proofs.lemmas.{Bool.{leb-true}, List.Elements.{All-push, All-nil}}
use Rattle.ppdb_base.specs.declared.BlobFault.{BlobFault}
use Rattle.cli_ints.{specs.Compressed.{SpellsUnsigned}, proofs.Shortest.{unsigned-below}}
use Rattle.blob_grammar.specs.{Grammar.{Value, number, integer, octets, Form, unsigned, Spells, Field, Cut, with_value, IsAllowed}, Reading.{Reading}}
use Rattle.blob_grammar.{specs.Allowed.{is_row}, proofs.ReadRecords.{of_reading}}
use Rattle.custom_info.specs.TypeDocuments.{type_documents, IsRowNumber}

pub row-there : (rows row : ℕ) → is_row rows row ≡ true → (1 ≤ row) × (row ≤ rows)
row-there rows row e = let p = and_parts (nat_le 1 row) (nat_le row rows) e in (leb-true 1 row p.0, leb-true row rows p.1)

-- the bytes of an unsigned field spell its number
pub unsigned-spelled : (form : Form) (bytes : List ℕ) (n : ℕ) (after : List ℕ) → Some unsigned ≡ Some form → Spells form bytes (number n) after
    → SpellsUnsigned bytes n
unsigned-spelled form bytes n after e s = let same : form ≡ unsigned = cc in subst (λ (f : Form). Spells f bytes (number n) after) same s

abbrev IsRead : ℕ → ℕ → Type 0
IsRead documents row = IsRowNumber row × (row ≤ documents)

-- no row has begun
abbrev Begun : List Value → Type 0
Begun [] = Unit {0}
Begun (x ∷ xs) = ⊥

abbrev Holds : ℕ → Cut ℕ → Type 0
Holds documents c = All (IsRead documents) c.whole × Begun c.begun

one : (documents : ℕ) (whole : List ℕ) (begun : List Value) (bytes : List ℕ) (value : Value) (after : List ℕ)
    → IsAllowed (type_documents documents) (record { whole = whole; begun = begun }) (record { bytes = bytes; value = value }) after
    → All (IsRead documents) whole → Begun begun → Holds documents (with_value (type_documents documents) (record { whole = whole; begun = begun }) value)
one documents whole (x ∷ xs) bytes value after a h b = absurd b
one documents whole [] bytes (integer z) after a h b = let e : false ≡ true = a.allowed in absurd cc
one documents whole [] bytes (octets xs) after a h b = let e : false ≡ true = a.allowed in absurd cc
one documents whole [] bytes (number n) after a h b =
    let there = row-there documents n a.allowed in
    (All-push (IsRead documents) whole n h ((there.0, unsigned-below bytes n (unsigned-spelled a.form bytes n after a.expected a.spelled)), there.1), tt)

kept : (documents : ℕ) (c : Cut ℕ) (f : Field) (after : List ℕ) → IsAllowed (type_documents documents) c f after → Holds documents c
    → Holds documents (with_value (type_documents documents) c f.value)
kept documents c f after a h = one documents c.whole c.begun f.bytes f.value after a h.0 h.1

pub read_rows : (documents : ℕ) (blob : List ℕ) (rows : List ℕ) (fault : Option BlobFault) → Reading (type_documents documents) blob rows fault
    → All (λ row. IsRowNumber row × (row ≤ documents)) rows
read_rows documents blob rows fault r =
    subst (λ (xs : List ℕ). All (IsRead documents) xs) (sym r.made) (of_reading (type_documents documents) (Holds documents) (kept documents)
    (All-nil (IsRead documents), tt) blob rows fault r).0
