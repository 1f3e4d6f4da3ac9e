-- The faults of Import.
use Rattle.std.proofs.Common.{◌≡◌, ℕ, suc, ◌+◌, ◌<◌, ◌⊎◌, length, Some, None, arith}
use Rattle.ppdb_base.specs.declared.{code.Code.{Code}, code.Code.TheVariants.{BlobIndex, RowIndex, ImportCycle}, fault.BlobFault.{BlobFault}, fault.Place.{Place}}
use Rattle.ppdb_base.specs.{declared.fault.Fault.{Fault}, Place.{number_of}}
use Rattle.ppdb_heaps.specs.Heaps.{blob_at}
use Rattle.ppdb_tables.specs.{declared.rows.ImportRow.{ImportRow}, RawTables.{RawTables, row_at, count}, Chains.{NeverEnds}}
use Rattle.type_blobs.specs.Imports.{imports}
use Rattle.ppdb_verify_rules.specs.{Blobs.{HasFault, in_blob, type_limits}, Chains.{parent_in}, Earlier.{NamesNoRow}, Judged.{ToTable, ToRow, ToCell, IsFirstOf}}
use Rattle.ppdb_verify_rules.specs.{Rows.{RowFaults, ImportFault}, Rows.RowFaults.{in_import}, Rows.ImportFault.{no_parent, cycle, no_list, invalid_list}}
use Rattle.ppdb_verify_rules.proofs.BlobFaults.{one_fault, not_there}
use Rattle.ppdb_verify_rules.proofs.CellFaults as cells

inside : (raw : RawTables) (code : Code) (at : Place) → RowFaults raw code at → at.table ≡ 0x35
    → (x : ImportRow) × (row_at raw.imports at.row ≡ Some x) × ImportFault raw at.row x at.column at.byte code
inside raw _ _ (in_import {row} {column} {byte} {code} {x} there fault) t = (x, there, fault)
inside raw _ _ _ t = absurd (omega (arith, t))

module _ (raw : RawTables) where
  pub first_row : ToTable raw 0x35 → ToRow raw 0x35 1
  first_row = cells.first_row raw 0x35 raw.imports (ImportFault raw) (inside raw)

  pub past_table : (row : ℕ) → length raw.imports < row → ToRow raw 0x35 row → ToTable raw 0x36
  past_table = cells.past_table raw 0x35 raw.imports (ImportFault raw) (inside raw)

module _ (raw : RawTables) (row : ℕ) (import : ImportRow) (there : row_at raw.imports row ≡ Some import) where
  next : (column : ℕ) → ToCell raw 0x35 row column → ((byte : ℕ) (code : Code) → ImportFault raw row import column byte code → ⊥)
      → ToCell raw 0x35 row (suc column)
  next column = cells.next_cell raw 0x35 raw.imports (ImportFault raw) (inside raw) row column import there

  first : (column : ℕ) (code : Code) (fault : Fault) → ToCell raw 0x35 row column → ImportFault raw row import column 0 code
      → ((b : ℕ) (other : Code) → ImportFault raw row import column b other → number_of other < number_of code → ⊥)
      → fault ≡ record { code = code; place = in_blob 0x35 row column 0 } → IsFirstOf raw fault
  first column code fault judged wrong =
      cells.first_at raw 0x35 raw.imports (ImportFault raw) (inside raw) row column import code fault there judged (in_import there wrong)

  first_within : (column : ℕ) (fault : Fault) (inner : BlobFault) → ToCell raw 0x35 row column → ImportFault raw row import column inner.byte inner.code
      → ((b : ℕ) (other : Code) → ImportFault raw row import column b other → (b < inner.byte) ⊎ ((b ≡ inner.byte) × (number_of other < number_of inner.code))
      → ⊥)
      → fault ≡ record { code = inner.code; place = in_blob 0x35 row column inner.byte } → IsFirstOf raw fault
  first_within column fault inner judged wrong =
      cells.first_within raw 0x35 raw.imports (ImportFault raw) (inside raw) row column import fault inner there judged (in_import there wrong)

  pub past_row : ToCell raw 0x35 row 2 → ToRow raw 0x35 (row + 1)
  past_row judged = cells.past_row raw 0x35 raw.imports (ImportFault raw) (inside raw) row 2 import there judged narrow
    where
      narrow : (c byte : ℕ) (code : Code) → ImportFault raw row import c byte code → c < 2
      narrow _ _ _ (no_parent _) = omega arith
      narrow _ _ _ (cycle _) = omega arith
      narrow _ _ _ (no_list _) = omega arith
      narrow _ _ _ (invalid_list _) = omega arith

  pub no_parent_first : (fault : Fault) → ToCell raw 0x35 row 0 → NamesNoRow 0 (count raw 0x35) import.parent
      → fault ≡ record { code = RowIndex; place = in_blob 0x35 row 0 0 } → IsFirstOf raw fault
  no_parent_first fault judged wrong = first 0 RowIndex fault judged (no_parent wrong) none
    where
      none : (b : ℕ) (other : Code) → ImportFault raw row import 0 b other → number_of other < 22 → ⊥
      none _ _ (no_parent _) lower = omega (arith, lower)
      none _ _ (cycle _) lower = omega (arith, lower)

  pub cycle_first : (fault : Fault) → ToCell raw 0x35 row 0 → (NamesNoRow 0 (count raw 0x35) import.parent → ⊥) → NeverEnds (parent_in raw.imports) row
      → fault ≡ record { code = ImportCycle; place = in_blob 0x35 row 0 0 } → IsFirstOf raw fault
  cycle_first fault judged no0 wrong = first 0 ImportCycle fault judged (cycle wrong) none
    where
      none : (b : ℕ) (other : Code) → ImportFault raw row import 0 b other → number_of other < 32 → ⊥
      none _ _ (no_parent w) lower = no0 w
      none _ _ (cycle _) lower = omega (arith, lower)

  pub next_0 : ToCell raw 0x35 row 0 → (NamesNoRow 0 (count raw 0x35) import.parent → ⊥) → (NeverEnds (parent_in raw.imports) row → ⊥) → ToCell raw 0x35 row 1
  next_0 judged no0 no1 = next 0 judged none
    where
      none : (b : ℕ) (other : Code) → ImportFault raw row import 0 b other → ⊥
      none _ _ (no_parent w) = no0 w
      none _ _ (cycle w) = no1 w

  pub no_list_first : (fault : Fault) → ToCell raw 0x35 row 1 → blob_at raw.blobs import.imports ≡ None
      → fault ≡ record { code = BlobIndex; place = in_blob 0x35 row 1 0 } → IsFirstOf raw fault
  no_list_first fault judged wrong = first 1 BlobIndex fault judged (no_list wrong) none
    where
      none : (b : ℕ) (other : Code) → ImportFault raw row import 1 b other → number_of other < 20 → ⊥
      none _ _ (no_list _) lower = omega (arith, lower)
      none _ _ (invalid_list w) lower = not_there w wrong

  pub invalid_list_first : (fault : Fault) (inner : BlobFault) → ToCell raw 0x35 row 1
      → HasFault (imports (type_limits raw) (blob_at raw.blobs)) raw.blobs import.imports inner
      → fault ≡ record { code = inner.code; place = in_blob 0x35 row 1 inner.byte } → IsFirstOf raw fault
  invalid_list_first fault inner judged wrong = first_within 1 fault inner judged (invalid_list {fault = inner} wrong) none
    where
      none : (b : ℕ) (other : Code) → ImportFault raw row import 1 b other → (b < inner.byte) ⊎ ((b ≡ inner.byte) × (number_of other < number_of inner.code))
          → ⊥
      none _ _ (no_list w) lower = not_there wrong w
      none _ _ (invalid_list {fault = other} w) lower = one_fault wrong w lower

  pub next_1 : ToCell raw 0x35 row 1 → (blob_at raw.blobs import.imports ≡ None → ⊥)
      → ((fault : BlobFault) → HasFault (imports (type_limits raw) (blob_at raw.blobs)) raw.blobs import.imports fault → ⊥) → ToCell raw 0x35 row 2
  next_1 judged no0 no1 = next 1 judged none
    where
      none : (b : ℕ) (other : Code) → ImportFault raw row import 1 b other → ⊥
      none _ _ (no_list w) = no0 w
      none _ _ (invalid_list {fault} w) = no1 fault w
