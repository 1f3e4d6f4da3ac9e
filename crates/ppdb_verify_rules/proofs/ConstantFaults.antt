-- The faults of Constant.
use Rattle.std.proofs.Common.{◌≡◌, ℕ, suc, ◌+◌, ◌<◌, ◌⊎◌, length, Some, None, arith}
use Rattle.ppdb_base.specs.declared.{code.Code.{Code}, code.Code.TheVariants.{StringIndex, BlobIndex, ListRange, NameRepeated}, fault.BlobFault.{BlobFault}}
use Rattle.ppdb_base.specs.{declared.fault.Place.{Place}, declared.fault.Fault.{Fault}, Place.{number_of}}
use Rattle.ppdb_heaps.specs.Heaps.{text_at, blob_at}
use Rattle.ppdb_tables.specs.{declared.rows.ConstantRow.{ConstantRow}, RawTables.{RawTables, row_at, count}}
use Rattle.type_blobs.specs.Constants.{constants}
use Rattle.ppdb_verify_rules.specs.{Blobs.{HasFault, in_blob, type_limits}, Earlier.{HasEarlier}, Judged.{ToTable, ToRow, ToCell, IsFirstOf}, Rows.{RowFaults}}
use Rattle.ppdb_verify_rules.specs.{Rows.{ConstantFault}, Rows.RowFaults.{in_constant}, Rows.ConstantFault.{no_text, alone, same_text, no_signature}}
use Rattle.ppdb_verify_rules.{specs.Rows.ConstantFault.{invalid_signature}, specs.Scopes.{AreSameText, ShareOwner}, proofs.BlobFaults.{one_fault, not_there}}
use Rattle.ppdb_verify_rules.proofs.CellFaults as cells

inside : (raw : RawTables) (code : Code) (at : Place) → RowFaults raw code at → at.table ≡ 0x34
    → (x : ConstantRow) × (row_at raw.constants at.row ≡ Some x) × ConstantFault raw at.row x at.column at.byte code
inside raw _ _ (in_constant {row} {column} {byte} {code} {x} there fault) t = (x, there, fault)
inside raw _ _ _ t = absurd (omega (arith, t))

module _ (raw : RawTables) where
  pub first_row : ToTable raw 0x34 → ToRow raw 0x34 1
  first_row = cells.first_row raw 0x34 raw.constants (ConstantFault raw) (inside raw)

  pub past_table : (row : ℕ) → length raw.constants < row → ToRow raw 0x34 row → ToTable raw 0x35
  past_table = cells.past_table raw 0x34 raw.constants (ConstantFault raw) (inside raw)

module _ (raw : RawTables) (row : ℕ) (constant : ConstantRow) (there : row_at raw.constants row ≡ Some constant) where
  next : (column : ℕ) → ToCell raw 0x34 row column → ((byte : ℕ) (code : Code) → ConstantFault raw row constant column byte code → ⊥)
      → ToCell raw 0x34 row (suc column)
  next column = cells.next_cell raw 0x34 raw.constants (ConstantFault raw) (inside raw) row column constant there

  first : (column : ℕ) (code : Code) (fault : Fault) → ToCell raw 0x34 row column → ConstantFault raw row constant column 0 code
      → ((b : ℕ) (other : Code) → ConstantFault raw row constant column b other → number_of other < number_of code → ⊥)
      → fault ≡ record { code = code; place = in_blob 0x34 row column 0 } → IsFirstOf raw fault
  first column code fault judged wrong =
      cells.first_at raw 0x34 raw.constants (ConstantFault raw) (inside raw) row column constant code fault there judged (in_constant there wrong)

  first_within : (column : ℕ) (fault : Fault) (inner : BlobFault) → ToCell raw 0x34 row column → ConstantFault raw row constant column inner.byte inner.code
      → ((b : ℕ) (other : Code) → ConstantFault raw row constant column b other
      → (b < inner.byte) ⊎ ((b ≡ inner.byte) × (number_of other < number_of inner.code)) → ⊥)
      → fault ≡ record { code = inner.code; place = in_blob 0x34 row column inner.byte } → IsFirstOf raw fault
  first_within column fault inner judged wrong =
      cells.first_within raw 0x34 raw.constants (ConstantFault raw) (inside raw) row column constant fault inner there judged (in_constant there wrong)

  pub past_row : ToCell raw 0x34 row 2 → ToRow raw 0x34 (row + 1)
  past_row judged = cells.past_row raw 0x34 raw.constants (ConstantFault raw) (inside raw) row 2 constant there judged narrow
    where
      narrow : (c byte : ℕ) (code : Code) → ConstantFault raw row constant c byte code → c < 2
      narrow _ _ _ (no_text _) = omega arith
      narrow _ _ _ (alone _) = omega arith
      narrow _ _ _ (same_text _) = omega arith
      narrow _ _ _ (no_signature _) = omega arith
      narrow _ _ _ (invalid_signature _) = omega arith

  pub no_text_first : (fault : Fault) → ToCell raw 0x34 row 0 → text_at raw.texts constant.name ≡ None
      → fault ≡ record { code = StringIndex; place = in_blob 0x34 row 0 0 } → IsFirstOf raw fault
  no_text_first fault judged wrong = first 0 StringIndex fault judged (no_text wrong) none
    where
      none : (b : ℕ) (other : Code) → ConstantFault raw row constant 0 b other → number_of other < 19 → ⊥
      none _ _ (no_text _) lower = omega (arith, lower)
      none _ _ (alone _) lower = omega (arith, lower)
      none _ _ (same_text _) lower = omega (arith, lower)

  pub alone_first : (fault : Fault) → ToCell raw 0x34 row 0 → (text_at raw.texts constant.name ≡ None → ⊥) → (row ≡ 1) × (count raw 0x32 ≡ 0)
      → fault ≡ record { code = ListRange; place = in_blob 0x34 row 0 0 } → IsFirstOf raw fault
  alone_first fault judged no0 wrong = first 0 ListRange fault judged (alone wrong) none
    where
      none : (b : ℕ) (other : Code) → ConstantFault raw row constant 0 b other → number_of other < 29 → ⊥
      none _ _ (no_text w) lower = no0 w
      none _ _ (alone _) lower = omega (arith, lower)
      none _ _ (same_text _) lower = omega (arith, lower)

  pub same_text_first : (fault : Fault) → ToCell raw 0x34 row 0 → (text_at raw.texts constant.name ≡ None → ⊥) → ((row ≡ 1) × (count raw 0x32 ≡ 0) → ⊥)
      → HasEarlier (λ before (e : ConstantRow). ShareOwner (λ s. s.constants) raw.scopes before row × AreSameText raw.texts e.name constant.name) raw.constants
      row
      → fault ≡ record { code = NameRepeated; place = in_blob 0x34 row 0 0 } → IsFirstOf raw fault
  same_text_first fault judged no0 no1 wrong = first 0 NameRepeated fault judged (same_text wrong) none
    where
      none : (b : ℕ) (other : Code) → ConstantFault raw row constant 0 b other → number_of other < 31 → ⊥
      none _ _ (no_text w) lower = no0 w
      none _ _ (alone w) lower = no1 w
      none _ _ (same_text _) lower = omega (arith, lower)

  pub next_0 : ToCell raw 0x34 row 0 → (text_at raw.texts constant.name ≡ None → ⊥) → ((row ≡ 1) × (count raw 0x32 ≡ 0) → ⊥)
      → (HasEarlier (λ before (e : ConstantRow). ShareOwner (λ s. s.constants) raw.scopes before row × AreSameText raw.texts e.name constant.name) raw.constants
      row → ⊥) → ToCell raw 0x34 row 1
  next_0 judged no0 no1 no2 = next 0 judged none
    where
      none : (b : ℕ) (other : Code) → ConstantFault raw row constant 0 b other → ⊥
      none _ _ (no_text w) = no0 w
      none _ _ (alone w) = no1 w
      none _ _ (same_text w) = no2 w

  pub no_signature_first : (fault : Fault) → ToCell raw 0x34 row 1 → blob_at raw.blobs constant.signature ≡ None
      → fault ≡ record { code = BlobIndex; place = in_blob 0x34 row 1 0 } → IsFirstOf raw fault
  no_signature_first fault judged wrong = first 1 BlobIndex fault judged (no_signature wrong) none
    where
      none : (b : ℕ) (other : Code) → ConstantFault raw row constant 1 b other → number_of other < 20 → ⊥
      none _ _ (no_signature _) lower = omega (arith, lower)
      none _ _ (invalid_signature w) lower = not_there w wrong

  pub invalid_signature_first : (fault : Fault) (inner : BlobFault) → ToCell raw 0x34 row 1
      → HasFault (constants (type_limits raw)) raw.blobs constant.signature inner
      → fault ≡ record { code = inner.code; place = in_blob 0x34 row 1 inner.byte } → IsFirstOf raw fault
  invalid_signature_first fault inner judged wrong = first_within 1 fault inner judged (invalid_signature {fault = inner} wrong) none
    where
      none : (b : ℕ) (other : Code) → ConstantFault raw row constant 1 b other
          → (b < inner.byte) ⊎ ((b ≡ inner.byte) × (number_of other < number_of inner.code)) → ⊥
      none _ _ (no_signature w) lower = not_there wrong w
      none _ _ (invalid_signature {fault = other} w) lower = one_fault wrong w lower

  pub next_1 : ToCell raw 0x34 row 1 → (blob_at raw.blobs constant.signature ≡ None → ⊥)
      → ((fault : BlobFault) → HasFault (constants (type_limits raw)) raw.blobs constant.signature fault → ⊥) → ToCell raw 0x34 row 2
  next_1 judged no0 no1 = next 1 judged none
    where
      none : (b : ℕ) (other : Code) → ConstantFault raw row constant 1 b other → ⊥
      none _ _ (no_signature w) = no0 w
      none _ _ (invalid_signature {fault} w) = no1 fault w
