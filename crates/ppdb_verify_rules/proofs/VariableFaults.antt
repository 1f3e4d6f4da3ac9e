-- The faults of Variable.
use Rattle.std.proofs.Common.{◌≡◌, ℕ, suc, ◌+◌, ◌<◌, length, Some, None, arith}
use Rattle.ppdb_base.specs.declared.{code.Code.{Code}, code.Code.TheVariants.{StringIndex, ListRange, SlotRepeated, NameRepeated}, fault.Place.{Place}}
use Rattle.ppdb_base.specs.{declared.fault.Fault.{Fault}, Place.{number_of}}
use Rattle.ppdb_heaps.specs.Heaps.{text_at}
use Rattle.ppdb_tables.specs.{declared.rows.VariableRow.{VariableRow}, RawTables.{RawTables, row_at, count}}
use Rattle.ppdb_verify_rules.specs.{Blobs.{in_blob}, Earlier.{HasEarlier}, Judged.{ToTable, ToRow, ToCell, IsFirstOf}, Rows.{RowFaults, VariableFault}}
use Rattle.ppdb_verify_rules.specs.{Rows.RowFaults.{in_variable}, Rows.VariableFault.{alone, same_slot, no_text, same_text}, Scopes.{AreSameText, ShareOwner}}
use Rattle.ppdb_verify_rules.proofs.CellFaults as cells

inside : (raw : RawTables) (code : Code) (at : Place) → RowFaults raw code at → at.table ≡ 0x33
    → (x : VariableRow) × (row_at raw.variables at.row ≡ Some x) × VariableFault raw at.row x at.column at.byte code
inside raw _ _ (in_variable {row} {column} {byte} {code} {x} there fault) t = (x, there, fault)
inside raw _ _ _ t = absurd (omega (arith, t))

module _ (raw : RawTables) where
  pub first_row : ToTable raw 0x33 → ToRow raw 0x33 1
  first_row = cells.first_row raw 0x33 raw.variables (VariableFault raw) (inside raw)

  pub past_table : (row : ℕ) → length raw.variables < row → ToRow raw 0x33 row → ToTable raw 0x34
  past_table = cells.past_table raw 0x33 raw.variables (VariableFault raw) (inside raw)

module _ (raw : RawTables) (row : ℕ) (variable : VariableRow) (there : row_at raw.variables row ≡ Some variable) where
  next : (column : ℕ) → ToCell raw 0x33 row column → ((byte : ℕ) (code : Code) → VariableFault raw row variable column byte code → ⊥)
      → ToCell raw 0x33 row (suc column)
  next column = cells.next_cell raw 0x33 raw.variables (VariableFault raw) (inside raw) row column variable there

  first : (column : ℕ) (code : Code) (fault : Fault) → ToCell raw 0x33 row column → VariableFault raw row variable column 0 code
      → ((b : ℕ) (other : Code) → VariableFault raw row variable column b other → number_of other < number_of code → ⊥)
      → fault ≡ record { code = code; place = in_blob 0x33 row column 0 } → IsFirstOf raw fault
  first column code fault judged wrong =
      cells.first_at raw 0x33 raw.variables (VariableFault raw) (inside raw) row column variable code fault there judged (in_variable there wrong)

  pub past_row : ToCell raw 0x33 row 3 → ToRow raw 0x33 (row + 1)
  past_row judged = cells.past_row raw 0x33 raw.variables (VariableFault raw) (inside raw) row 3 variable there judged narrow
    where
      narrow : (c byte : ℕ) (code : Code) → VariableFault raw row variable c byte code → c < 3
      narrow _ _ _ (alone _) = omega arith
      narrow _ _ _ (same_slot _) = omega arith
      narrow _ _ _ (no_text _) = omega arith
      narrow _ _ _ (same_text _) = omega arith

  pub alone_first : (fault : Fault) → ToCell raw 0x33 row 0 → (row ≡ 1) × (count raw 0x32 ≡ 0)
      → fault ≡ record { code = ListRange; place = in_blob 0x33 row 0 0 } → IsFirstOf raw fault
  alone_first fault judged wrong = first 0 ListRange fault judged (alone wrong) none
    where
      none : (b : ℕ) (other : Code) → VariableFault raw row variable 0 b other → number_of other < 29 → ⊥
      none _ _ (alone _) lower = omega (arith, lower)

  pub next_0 : ToCell raw 0x33 row 0 → ((row ≡ 1) × (count raw 0x32 ≡ 0) → ⊥) → ToCell raw 0x33 row 1
  next_0 judged no0 = next 0 judged none
    where
      none : (b : ℕ) (other : Code) → VariableFault raw row variable 0 b other → ⊥
      none _ _ (alone w) = no0 w

  pub same_slot_first : (fault : Fault) → ToCell raw 0x33 row 1
      → HasEarlier (λ before (e : VariableRow). ShareOwner (λ s. s.variables) raw.scopes before row × (e.slot ≡ variable.slot)) raw.variables row
      → fault ≡ record { code = SlotRepeated; place = in_blob 0x33 row 1 0 } → IsFirstOf raw fault
  same_slot_first fault judged wrong = first 1 SlotRepeated fault judged (same_slot wrong) none
    where
      none : (b : ℕ) (other : Code) → VariableFault raw row variable 1 b other → number_of other < 30 → ⊥
      none _ _ (same_slot _) lower = omega (arith, lower)

  pub next_1 : ToCell raw 0x33 row 1 → (HasEarlier (λ before (e : VariableRow). ShareOwner (λ s. s.variables) raw.scopes before row × (e.slot ≡ variable.slot))
      raw.variables row → ⊥) → ToCell raw 0x33 row 2
  next_1 judged no0 = next 1 judged none
    where
      none : (b : ℕ) (other : Code) → VariableFault raw row variable 1 b other → ⊥
      none _ _ (same_slot w) = no0 w

  pub no_text_first : (fault : Fault) → ToCell raw 0x33 row 2 → text_at raw.texts variable.name ≡ None
      → fault ≡ record { code = StringIndex; place = in_blob 0x33 row 2 0 } → IsFirstOf raw fault
  no_text_first fault judged wrong = first 2 StringIndex fault judged (no_text wrong) none
    where
      none : (b : ℕ) (other : Code) → VariableFault raw row variable 2 b other → number_of other < 19 → ⊥
      none _ _ (no_text _) lower = omega (arith, lower)
      none _ _ (same_text _) lower = omega (arith, lower)

  pub same_text_first : (fault : Fault) → ToCell raw 0x33 row 2 → (text_at raw.texts variable.name ≡ None → ⊥)
      → HasEarlier (λ before (e : VariableRow). ShareOwner (λ s. s.variables) raw.scopes before row × AreSameText raw.texts e.name variable.name) raw.variables
      row
      → fault ≡ record { code = NameRepeated; place = in_blob 0x33 row 2 0 } → IsFirstOf raw fault
  same_text_first fault judged no0 wrong = first 2 NameRepeated fault judged (same_text wrong) none
    where
      none : (b : ℕ) (other : Code) → VariableFault raw row variable 2 b other → number_of other < 31 → ⊥
      none _ _ (no_text w) lower = no0 w
      none _ _ (same_text _) lower = omega (arith, lower)

  pub next_2 : ToCell raw 0x33 row 2 → (text_at raw.texts variable.name ≡ None → ⊥)
      → (HasEarlier (λ before (e : VariableRow). ShareOwner (λ s. s.variables) raw.scopes before row × AreSameText raw.texts e.name variable.name) raw.variables
      row → ⊥) → ToCell raw 0x33 row 3
  next_2 judged no0 no1 = next 2 judged none
    where
      none : (b : ℕ) (other : Code) → VariableFault raw row variable 2 b other → ⊥
      none _ _ (no_text w) = no0 w
      none _ _ (same_text w) = no1 w
