-- What a cursor of type documents has left, a row at a time.
use Rattle.std.proofs.Common.{◌≡◌, ℕ, ◌+◌, ◌<◌, true, ◌&&◌, List, [], ◌∷◌, length, drop, Some, None, Ok, Err, refl, ap, ◌∙◌}
use Rattle.blob_grammar.{specs.Reader.{unsigned_at, placed, push}, specs.Grammar.{unsigned}, specs.Reading.{Reading}, proofs.Readers.{read_from-reads}}
use Rattle.blob_grammar.{proofs.Steps.{Alike, read_from-alike, nothing_left, left-end, not_empty}, specs.Allowed.{is_row}}
use Rattle.ppdb_base.specs.declared.BlobFault.{BlobFault}
use Rattle.custom_info.{specs.Fields.{checked}, specs.TypeDocuments.{type_documents, rows_left}, proofs.Checked.{left-kept, left-refused}}

Any : List ℕ → List ℕ → Type 0
Any a b = Unit {0}

-- the grammar asks nothing of the rows before
alike : (documents : ℕ) → Alike (type_documents documents) (type_documents documents) Any
unfolding Any
alike documents =
    record { form = λ a b vs e. refl; allows = λ a b vs v e. refl; record_of = λ a b vs e. refl; may_stop = λ a b vs e. refl; push = λ a b r e. tt }

-- Nothing is left at the end,
pub at_end : (documents : ℕ) (blob : List ℕ) (at : ℕ) → at ≡ length blob → rows_left documents blob at ≡ nothing_left None
unfolding rows_left
at_end documents blob at e = left-end (type_documents documents) [] [] blob at unsigned refl e refl

-- nor where no row stands.
pub no_row : (documents : ℕ) (blob : List ℕ) (at : ℕ) (fault : BlobFault) → at < length blob
    → checked (is_row documents) at (placed at (unsigned_at (drop at blob))) ≡ Err fault → rows_left documents blob at ≡ nothing_left (Some fault)
unfolding rows_left
no_row documents blob at fault less e =
    left-refused (type_documents documents) [] [] blob at unsigned (unsigned_at (drop at blob)) fault refl refl (ap (λ b. b && true) (not_empty blob at less)) e

-- Else the row is left, and what is left after it.
pub a_row : (documents : ℕ) (blob : List ℕ) (at row len : ℕ) → checked (is_row documents) at (placed at (unsigned_at (drop at blob))) ≡ Ok (row, len)
    → rows_left documents blob at ≡ push row (rows_left documents blob (at + len))
unfolding rows_left Any
a_row documents blob at row len e =
    left-kept (type_documents documents) [] [] blob at unsigned (unsigned_at (drop at blob)) row len refl refl e
    ∙ ap (push row) (read_from-alike (type_documents documents) (type_documents documents) Any (alike documents) (row ∷ []) [] [] (at + len)
    (drop (at + len) blob) tt)

-- What is left at the start is the blob's reading.
pub rows_left-reads : (documents : ℕ) (blob : List ℕ)
    → Reading (type_documents documents) blob (rows_left documents blob 0).items (rows_left documents blob 0).fault
unfolding rows_left
rows_left-reads documents blob = read_from-reads (type_documents documents) blob
