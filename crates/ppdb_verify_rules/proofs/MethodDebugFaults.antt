-- The faults of MethodDebug.
use Rattle.std.proofs.Common.{◌≡◌, ℕ, suc, ◌+◌, ◌<◌, ◌⊎◌, length, Some, None, arith}
use Rattle.ppdb_base.specs.declared.{code.Code.{Code}, code.Code.TheVariants.{BlobIndex, RowIndex}, fault.BlobFault.{BlobFault}, fault.Place.{Place}}
use Rattle.ppdb_base.specs.{declared.fault.Fault.{Fault}, Place.{number_of}}
use Rattle.ppdb_heaps.specs.Heaps.{blob_at}
use Rattle.ppdb_tables.specs.{declared.rows.MethodDebugRow.{MethodDebugRow}, RawTables.{RawTables, row_at, count}}
use Rattle.sequence_points.specs.Records.{sequence_points}
use Rattle.ppdb_verify_rules.specs.{Blobs.{HasFault, IsNil, in_blob, point_limits}, Earlier.{NamesNoRow}, Judged.{ToTable, ToRow, ToCell, IsFirstOf}}
use Rattle.ppdb_verify_rules.specs.{Rows.{RowFaults, MethodDebugFault}, Rows.RowFaults.{in_method}, Rows.MethodDebugFault.{no_document, no_points, invalid_points}}
use Rattle.ppdb_verify_rules.proofs.BlobFaults.{one_fault, not_there}
use Rattle.ppdb_verify_rules.proofs.CellFaults as cells

inside : (raw : RawTables) (code : Code) (at : Place) → RowFaults raw code at → at.table ≡ 0x31
    → (x : MethodDebugRow) × (row_at raw.methods at.row ≡ Some x) × MethodDebugFault raw at.row x at.column at.byte code
inside raw _ _ (in_method {row} {column} {byte} {code} {x} there fault) t = (x, there, fault)
inside raw _ _ _ t = absurd (omega (arith, t))

module _ (raw : RawTables) where
  pub first_row : ToTable raw 0x31 → ToRow raw 0x31 1
  first_row = cells.first_row raw 0x31 raw.methods (MethodDebugFault raw) (inside raw)

  pub past_table : (row : ℕ) → length raw.methods < row → ToRow raw 0x31 row → ToTable raw 0x32
  past_table = cells.past_table raw 0x31 raw.methods (MethodDebugFault raw) (inside raw)

module _ (raw : RawTables) (row : ℕ) (method : MethodDebugRow) (there : row_at raw.methods row ≡ Some method) where
  next : (column : ℕ) → ToCell raw 0x31 row column → ((byte : ℕ) (code : Code) → MethodDebugFault raw row method column byte code → ⊥)
      → ToCell raw 0x31 row (suc column)
  next column = cells.next_cell raw 0x31 raw.methods (MethodDebugFault raw) (inside raw) row column method there

  first : (column : ℕ) (code : Code) (fault : Fault) → ToCell raw 0x31 row column → MethodDebugFault raw row method column 0 code
      → ((b : ℕ) (other : Code) → MethodDebugFault raw row method column b other → number_of other < number_of code → ⊥)
      → fault ≡ record { code = code; place = in_blob 0x31 row column 0 } → IsFirstOf raw fault
  first column code fault judged wrong =
      cells.first_at raw 0x31 raw.methods (MethodDebugFault raw) (inside raw) row column method code fault there judged (in_method there wrong)

  first_within : (column : ℕ) (fault : Fault) (inner : BlobFault) → ToCell raw 0x31 row column → MethodDebugFault raw row method column inner.byte inner.code
      → ((b : ℕ) (other : Code) → MethodDebugFault raw row method column b other
      → (b < inner.byte) ⊎ ((b ≡ inner.byte) × (number_of other < number_of inner.code)) → ⊥)
      → fault ≡ record { code = inner.code; place = in_blob 0x31 row column inner.byte } → IsFirstOf raw fault
  first_within column fault inner judged wrong =
      cells.first_within raw 0x31 raw.methods (MethodDebugFault raw) (inside raw) row column method fault inner there judged (in_method there wrong)

  pub past_row : ToCell raw 0x31 row 2 → ToRow raw 0x31 (row + 1)
  past_row judged = cells.past_row raw 0x31 raw.methods (MethodDebugFault raw) (inside raw) row 2 method there judged narrow
    where
      narrow : (c byte : ℕ) (code : Code) → MethodDebugFault raw row method c byte code → c < 2
      narrow _ _ _ (no_document _) = omega arith
      narrow _ _ _ (no_points _) = omega arith
      narrow _ _ _ (invalid_points _ _) = omega arith

  pub no_document_first : (fault : Fault) → ToCell raw 0x31 row 0 → NamesNoRow 0 (count raw 0x30) method.document
      → fault ≡ record { code = RowIndex; place = in_blob 0x31 row 0 0 } → IsFirstOf raw fault
  no_document_first fault judged wrong = first 0 RowIndex fault judged (no_document wrong) none
    where
      none : (b : ℕ) (other : Code) → MethodDebugFault raw row method 0 b other → number_of other < 22 → ⊥
      none _ _ (no_document _) lower = omega (arith, lower)

  pub next_0 : ToCell raw 0x31 row 0 → (NamesNoRow 0 (count raw 0x30) method.document → ⊥) → ToCell raw 0x31 row 1
  next_0 judged no0 = next 0 judged none
    where
      none : (b : ℕ) (other : Code) → MethodDebugFault raw row method 0 b other → ⊥
      none _ _ (no_document w) = no0 w

  pub no_points_first : (fault : Fault) → ToCell raw 0x31 row 1 → blob_at raw.blobs method.points ≡ None
      → fault ≡ record { code = BlobIndex; place = in_blob 0x31 row 1 0 } → IsFirstOf raw fault
  no_points_first fault judged wrong = first 1 BlobIndex fault judged (no_points wrong) none
    where
      none : (b : ℕ) (other : Code) → MethodDebugFault raw row method 1 b other → number_of other < 20 → ⊥
      none _ _ (no_points _) lower = omega (arith, lower)
      none _ _ (invalid_points g w) lower = not_there w wrong

  pub invalid_points_first : (fault : Fault) (inner : BlobFault) → ToCell raw 0x31 row 1 → (IsNil raw.blobs method.points → ⊥)
      → HasFault (sequence_points method.document (point_limits raw)) raw.blobs method.points inner
      → fault ≡ record { code = inner.code; place = in_blob 0x31 row 1 inner.byte } → IsFirstOf raw fault
  invalid_points_first fault inner judged some wrong = first_within 1 fault inner judged (invalid_points {fault = inner} some wrong) none
    where
      none : (b : ℕ) (other : Code) → MethodDebugFault raw row method 1 b other
          → (b < inner.byte) ⊎ ((b ≡ inner.byte) × (number_of other < number_of inner.code)) → ⊥
      none _ _ (no_points w) lower = not_there wrong w
      none _ _ (invalid_points {fault = other} g w) lower = one_fault wrong w lower

  pub next_1 : ToCell raw 0x31 row 1 → (blob_at raw.blobs method.points ≡ None → ⊥)
      → ((fault : BlobFault) → (IsNil raw.blobs method.points → ⊥) → HasFault (sequence_points method.document (point_limits raw)) raw.blobs method.points fault
      → ⊥) → ToCell raw 0x31 row 2
  next_1 judged no0 no1 = next 1 judged none
    where
      none : (b : ℕ) (other : Code) → MethodDebugFault raw row method 1 b other → ⊥
      none _ _ (no_points w) = no0 w
      none _ _ (invalid_points {fault} g w) = no1 fault g w
