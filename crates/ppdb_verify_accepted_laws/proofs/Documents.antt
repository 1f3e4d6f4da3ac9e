-- The documents keep their rules.
use Rattle.std.{proofs.Common.{◌≡◌, ◌≢◌, ℕ, ◌<◌, List, refl, subst}, specs.Prelude.{Some}}
use Rattle.ppdb_base.specs.{declared.code.Code.{Code}, First.{IsAccepted}}
use Rattle.ppdb_heaps.specs.Names.{names, name_of}
use Rattle.ppdb_tables.specs.{declared.rows.DocumentRow.{DocumentRow}, RawTables.{RawTables, row_at}}
use Rattle.ppdb_verify_rules.specs.{Names.{SpellsName}, Rows.{RowFaults, DocumentFault}, Rows.RowFaults.{in_document}, Rows.DocumentFault.{no_name, nil_name}}
use Rattle.ppdb_verify_rules.specs.Rows.DocumentFault.{repeated, invalid_name, no_algorithm, no_hash, no_language}
use Rattle.ppdb_values.specs.{RawFile.{blob, records_of}, Documents.{document_of}, Rules.{HasBlob, IsDocument, IsWhole, KeepsDocuments}}
use Rattle.ppdb_verify_accepted_laws.proofs.Items.{blob_there, guid_or_none, whole_there}

module _ (raw : RawTables) (accepted : IsAccepted (RowFaults raw)) where
  module _ (row : ℕ) (x : DocumentRow) (here : row_at raw.documents row ≡ Some x) where
    no_fault : {column byte : ℕ} {code : Code} → DocumentFault raw row x column byte code → ⊥
    no_fault fault = accepted _ _ (in_document here fault)

    name_there : HasBlob raw x.name
    name_there = blob_there raw x.name (λ none. no_fault (no_name none))

    name_whole : IsWhole (names raw.blobs) (blob raw x.name)
    name_whole = whole_there raw (names raw.blobs) x.name name_there
        (λ fault invalid. no_fault (invalid_name {fault = fault} (λ nil. no_fault (nil_name nil)) invalid))

    spelled : SpellsName raw.blobs x.name (document_of raw x).name
    unfolding records_of name_of
    spelled = (
      blob raw x.name,
      name_there,
      record { parts = records_of (names raw.blobs) (blob raw x.name); whole = name_whole; text = refl },
    )

    kept : IsDocument raw x
    kept = record {
      name = name_there;
      name_whole = name_whole;
      algorithm = guid_or_none raw x.algorithm (λ none. no_fault (no_algorithm none));
      hash = blob_there raw x.hash (λ none. no_fault (no_hash none));
      language = guid_or_none raw x.language (λ none. no_fault (no_language none));
    }

  names_differ : (a b : ℕ) (x y : DocumentRow) → row_at raw.documents a ≡ Some x → row_at raw.documents b ≡ Some y → a < b
      → (document_of raw x).name ≢ (document_of raw y).name
  names_differ a b x y hx hy less same = no_fault b y hy (repeated (record {
    before = a;
    earlier = x;
    there = hx;
    sooner = less;
    forbidden = ((document_of raw y).name, subst (λ (name : List ℕ). SpellsName raw.blobs x.name name) same (spelled a x hx), spelled b y hy);
  }))

  pub documents_kept : KeepsDocuments raw
  documents_kept = record { each = kept; names_differ = names_differ }
