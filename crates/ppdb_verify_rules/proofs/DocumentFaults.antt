-- The faults of Document.
use Rattle.std.proofs.Common.{◌≡◌, ℕ, suc, ◌+◌, ◌<◌, ◌⊎◌, length, Some, None, arith}
use Rattle.ppdb_base.specs.declared.{code.Code.{Code}, code.Code.TheVariants.{BlobIndex, GuidIndex, NameNil, DocumentRepeated}, fault.BlobFault.{BlobFault}}
use Rattle.ppdb_base.specs.{declared.fault.Place.{Place}, declared.fault.Fault.{Fault}, Place.{number_of}}
use Rattle.ppdb_heaps.specs.{Heaps.{blob_at}, Names.{names}}
use Rattle.ppdb_tables.specs.{declared.rows.DocumentRow.{DocumentRow}, RawTables.{RawTables, row_at}}
use Rattle.ppdb_verify_rules.specs.{Blobs.{HasFault, IsNil, NamesNoGuid, in_blob}, Earlier.{HasEarlier}, Judged.{ToTable, ToRow, ToCell, IsFirstOf}}
use Rattle.ppdb_verify_rules.specs.{Names.{AreSameName}, Rows.{RowFaults, DocumentFault}, Rows.RowFaults.{in_document}, Rows.DocumentFault.{no_name, nil_name}}
use Rattle.ppdb_verify_rules.{specs.Rows.DocumentFault.{repeated, invalid_name, no_algorithm, no_hash, no_language}, proofs.BlobFaults.{one_fault, not_there}}
use Rattle.ppdb_verify_rules.proofs.BlobFaults.{name_whole}
use Rattle.ppdb_verify_rules.proofs.CellFaults as cells

inside : (raw : RawTables) (code : Code) (at : Place) → RowFaults raw code at → at.table ≡ 0x30
    → (x : DocumentRow) × (row_at raw.documents at.row ≡ Some x) × DocumentFault raw at.row x at.column at.byte code
inside raw _ _ (in_document {row} {column} {byte} {code} {x} there fault) t = (x, there, fault)
inside raw _ _ _ t = absurd (omega (arith, t))

module _ (raw : RawTables) where
  pub first_row : ToTable raw 0x30 → ToRow raw 0x30 1
  first_row = cells.first_row raw 0x30 raw.documents (DocumentFault raw) (inside raw)

  pub past_table : (row : ℕ) → length raw.documents < row → ToRow raw 0x30 row → ToTable raw 0x31
  past_table = cells.past_table raw 0x30 raw.documents (DocumentFault raw) (inside raw)

module _ (raw : RawTables) (row : ℕ) (document : DocumentRow) (there : row_at raw.documents row ≡ Some document) where
  next : (column : ℕ) → ToCell raw 0x30 row column → ((byte : ℕ) (code : Code) → DocumentFault raw row document column byte code → ⊥)
      → ToCell raw 0x30 row (suc column)
  next column = cells.next_cell raw 0x30 raw.documents (DocumentFault raw) (inside raw) row column document there

  first : (column : ℕ) (code : Code) (fault : Fault) → ToCell raw 0x30 row column → DocumentFault raw row document column 0 code
      → ((b : ℕ) (other : Code) → DocumentFault raw row document column b other → number_of other < number_of code → ⊥)
      → fault ≡ record { code = code; place = in_blob 0x30 row column 0 } → IsFirstOf raw fault
  first column code fault judged wrong =
      cells.first_at raw 0x30 raw.documents (DocumentFault raw) (inside raw) row column document code fault there judged (in_document there wrong)

  first_within : (column : ℕ) (fault : Fault) (inner : BlobFault) → ToCell raw 0x30 row column → DocumentFault raw row document column inner.byte inner.code
      → ((b : ℕ) (other : Code) → DocumentFault raw row document column b other
      → (b < inner.byte) ⊎ ((b ≡ inner.byte) × (number_of other < number_of inner.code)) → ⊥)
      → fault ≡ record { code = inner.code; place = in_blob 0x30 row column inner.byte } → IsFirstOf raw fault
  first_within column fault inner judged wrong =
      cells.first_within raw 0x30 raw.documents (DocumentFault raw) (inside raw) row column document fault inner there judged (in_document there wrong)

  pub past_row : ToCell raw 0x30 row 4 → ToRow raw 0x30 (row + 1)
  past_row judged = cells.past_row raw 0x30 raw.documents (DocumentFault raw) (inside raw) row 4 document there judged narrow
    where
      narrow : (c byte : ℕ) (code : Code) → DocumentFault raw row document c byte code → c < 4
      narrow _ _ _ (no_name _) = omega arith
      narrow _ _ _ (nil_name _) = omega arith
      narrow _ _ _ (repeated _) = omega arith
      narrow _ _ _ (invalid_name _ _) = omega arith
      narrow _ _ _ (no_algorithm _) = omega arith
      narrow _ _ _ (no_hash _) = omega arith
      narrow _ _ _ (no_language _) = omega arith

  pub no_name_first : (fault : Fault) → ToCell raw 0x30 row 0 → blob_at raw.blobs document.name ≡ None
      → fault ≡ record { code = BlobIndex; place = in_blob 0x30 row 0 0 } → IsFirstOf raw fault
  no_name_first fault judged wrong = first 0 BlobIndex fault judged (no_name wrong) none
    where
      none : (b : ℕ) (other : Code) → DocumentFault raw row document 0 b other → number_of other < 20 → ⊥
      none _ _ (no_name _) lower = omega (arith, lower)
      none _ _ (nil_name _) lower = omega (arith, lower)
      none _ _ (repeated _) lower = omega (arith, lower)
      none _ _ (invalid_name g w) lower = not_there w wrong

  pub nil_name_first : (fault : Fault) → ToCell raw 0x30 row 0 → (blob_at raw.blobs document.name ≡ None → ⊥) → IsNil raw.blobs document.name
      → fault ≡ record { code = NameNil; place = in_blob 0x30 row 0 0 } → IsFirstOf raw fault
  nil_name_first fault judged no0 wrong = first 0 NameNil fault judged (nil_name wrong) none
    where
      none : (b : ℕ) (other : Code) → DocumentFault raw row document 0 b other → number_of other < 24 → ⊥
      none _ _ (no_name w) lower = no0 w
      none _ _ (nil_name _) lower = omega (arith, lower)
      none _ _ (repeated _) lower = omega (arith, lower)
      none _ _ (invalid_name g w) lower = g wrong

  pub repeated_first : (fault : Fault) → ToCell raw 0x30 row 0 → (blob_at raw.blobs document.name ≡ None → ⊥) → (IsNil raw.blobs document.name → ⊥)
      → HasEarlier (λ _ (e : DocumentRow). AreSameName raw.blobs e.name document.name) raw.documents row
      → fault ≡ record { code = DocumentRepeated; place = in_blob 0x30 row 0 0 } → IsFirstOf raw fault
  repeated_first fault judged no0 no1 wrong = first 0 DocumentRepeated fault judged (repeated wrong) none
    where
      none : (b : ℕ) (other : Code) → DocumentFault raw row document 0 b other → number_of other < 25 → ⊥
      none _ _ (no_name w) lower = no0 w
      none _ _ (nil_name w) lower = no1 w
      none _ _ (repeated _) lower = omega (arith, lower)
      none _ _ (invalid_name g w) lower = name_whole wrong.forbidden.2 w

  pub invalid_name_first : (fault : Fault) (inner : BlobFault) → ToCell raw 0x30 row 0 → (IsNil raw.blobs document.name → ⊥)
      → HasFault (names raw.blobs) raw.blobs document.name inner
      → fault ≡ record { code = inner.code; place = in_blob 0x30 row 0 inner.byte } → IsFirstOf raw fault
  invalid_name_first fault inner judged some wrong = first_within 0 fault inner judged (invalid_name {fault = inner} some wrong) none
    where
      none : (b : ℕ) (other : Code) → DocumentFault raw row document 0 b other
          → (b < inner.byte) ⊎ ((b ≡ inner.byte) × (number_of other < number_of inner.code)) → ⊥
      none _ _ (no_name w) lower = not_there wrong w
      none _ _ (nil_name w) lower = some w
      none _ _ (repeated w) lower = name_whole w.forbidden.2 wrong
      none _ _ (invalid_name {fault = other} g w) lower = one_fault wrong w lower

  pub next_0 : ToCell raw 0x30 row 0 → (blob_at raw.blobs document.name ≡ None → ⊥) → (IsNil raw.blobs document.name → ⊥)
      → (HasEarlier (λ _ (e : DocumentRow). AreSameName raw.blobs e.name document.name) raw.documents row → ⊥)
      → ((fault : BlobFault) → (IsNil raw.blobs document.name → ⊥) → HasFault (names raw.blobs) raw.blobs document.name fault → ⊥) → ToCell raw 0x30 row 1
  next_0 judged no0 no1 no2 no3 = next 0 judged none
    where
      none : (b : ℕ) (other : Code) → DocumentFault raw row document 0 b other → ⊥
      none _ _ (no_name w) = no0 w
      none _ _ (nil_name w) = no1 w
      none _ _ (repeated w) = no2 w
      none _ _ (invalid_name {fault} g w) = no3 fault g w

  pub no_algorithm_first : (fault : Fault) → ToCell raw 0x30 row 1 → NamesNoGuid 0 raw.guids document.algorithm
      → fault ≡ record { code = GuidIndex; place = in_blob 0x30 row 1 0 } → IsFirstOf raw fault
  no_algorithm_first fault judged wrong = first 1 GuidIndex fault judged (no_algorithm wrong) none
    where
      none : (b : ℕ) (other : Code) → DocumentFault raw row document 1 b other → number_of other < 21 → ⊥
      none _ _ (no_algorithm _) lower = omega (arith, lower)

  pub next_1 : ToCell raw 0x30 row 1 → (NamesNoGuid 0 raw.guids document.algorithm → ⊥) → ToCell raw 0x30 row 2
  next_1 judged no0 = next 1 judged none
    where
      none : (b : ℕ) (other : Code) → DocumentFault raw row document 1 b other → ⊥
      none _ _ (no_algorithm w) = no0 w

  pub no_hash_first : (fault : Fault) → ToCell raw 0x30 row 2 → blob_at raw.blobs document.hash ≡ None
      → fault ≡ record { code = BlobIndex; place = in_blob 0x30 row 2 0 } → IsFirstOf raw fault
  no_hash_first fault judged wrong = first 2 BlobIndex fault judged (no_hash wrong) none
    where
      none : (b : ℕ) (other : Code) → DocumentFault raw row document 2 b other → number_of other < 20 → ⊥
      none _ _ (no_hash _) lower = omega (arith, lower)

  pub next_2 : ToCell raw 0x30 row 2 → (blob_at raw.blobs document.hash ≡ None → ⊥) → ToCell raw 0x30 row 3
  next_2 judged no0 = next 2 judged none
    where
      none : (b : ℕ) (other : Code) → DocumentFault raw row document 2 b other → ⊥
      none _ _ (no_hash w) = no0 w

  pub no_language_first : (fault : Fault) → ToCell raw 0x30 row 3 → NamesNoGuid 0 raw.guids document.language
      → fault ≡ record { code = GuidIndex; place = in_blob 0x30 row 3 0 } → IsFirstOf raw fault
  no_language_first fault judged wrong = first 3 GuidIndex fault judged (no_language wrong) none
    where
      none : (b : ℕ) (other : Code) → DocumentFault raw row document 3 b other → number_of other < 21 → ⊥
      none _ _ (no_language _) lower = omega (arith, lower)

  pub next_3 : ToCell raw 0x30 row 3 → (NamesNoGuid 0 raw.guids document.language → ⊥) → ToCell raw 0x30 row 4
  next_3 judged no0 = next 3 judged none
    where
      none : (b : ℕ) (other : Code) → DocumentFault raw row document 3 b other → ⊥
      none _ _ (no_language w) = no0 w
