-- What rows_into writes is read again.
use Rattle.std.{proofs.Common.{◌≡◌, ℕ, ◌≤◌, true, ◌&&◌, List, [], ◌∷◌, ◌++◌, None, refl, ap, subst, arith}, specs.Prelude.{All, nat_le, flat_map}}
use Rattle.std.proofs.lemmas.List.Elements.{All-head, All-tail}
use Rattle.cli_ints.{specs.Shortest.{short_unsigned}, proofs.Shortest.{short_unsigned-shortest}}
use Rattle.blob_grammar.{specs.Grammar.{number, unsigned, Field, bytes_of}, specs.Reading.{Reading}, proofs.Written.{Writes, EachMayAdd, fields_after, records_read}}
use Rattle.custom_info.specs.TypeDocuments.{type_documents, IsRowNumber}

abbrev fields_of : List ℕ → ℕ → List Field
fields_of whole row = record { bytes = short_unsigned row; value = number row } ∷ []

abbrev IsWritten : ℕ → ℕ → Type 0
IsWritten documents row = IsRowNumber row × (row ≤ documents)

abbrev MayAdd : ℕ → List ℕ → ℕ → Type 0
MayAdd documents whole row = IsWritten documents row

pub inside : (rows row : ℕ) → 1 ≤ row → row ≤ rows → (nat_le 1 row && nat_le row rows) ≡ true
inside rows row a b = grind arith

writes : (documents : ℕ) → Writes (type_documents documents) fields_of (MayAdd documents)
writes documents = record {
  follow = λ whole row left h. (
    record {
      form = unsigned;
      expected = refl;
      spelled = (short_unsigned-shortest row h.0.1).spelled;
      allowed = inside documents row h.0.0 h.1;
    },
    tt,
  );
  makes = λ whole row h. refl;
}

each : (documents : ℕ) (whole rows : List ℕ) → All IsRowNumber rows → All (λ row. row ≤ documents) rows → EachMayAdd (MayAdd documents) whole rows
each documents whole [] a b = tt
each documents whole (row ∷ rows) a b = (
  (All-head IsRowNumber row rows a, All-head (λ r. r ≤ documents) row rows b),
  each documents (whole ++ row ∷ []) rows (All-tail IsRowNumber row rows a)
      (All-tail (λ r. r ≤ documents) row rows b),
)

spelled : (whole rows : List ℕ) → bytes_of (fields_after fields_of whole rows) ≡ flat_map short_unsigned rows
spelled whole [] = refl
spelled whole (row ∷ rows) = ap (λ bs. short_unsigned row ++ bs) (spelled (whole ++ row ∷ []) rows)

pub written_rows : (documents : ℕ) (rows : List ℕ) → All IsRowNumber rows → All (λ row. row ≤ documents) rows
    → Reading (type_documents documents) (flat_map short_unsigned rows) rows None
written_rows documents rows a b =
    subst (λ blob. Reading (type_documents documents) blob rows None) (spelled [] rows) (records_read (type_documents documents) fields_of (MayAdd documents)
    (writes documents) rows (each documents [] rows a b) refl)
