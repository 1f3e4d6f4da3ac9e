-- The faults of LocalScope.
use Rattle.std.proofs.Common.{◌≡◌, ℕ, suc, ◌+◌, ◌<◌, length, Some, arith}
use Rattle.ppdb_base.specs.declared.{code.Code.{Code}, code.Code.TheVariants.{RowIndex, ScopeOrder, ScopeRange, ScopeCrossing, ListRange}, fault.Place.{Place}}
use Rattle.ppdb_base.specs.{declared.fault.Fault.{Fault}, Place.{number_of}}
use Rattle.ppdb_tables.specs.{declared.rows.ScopeRow.{ScopeRow}, RawTables.{RawTables, row_at, count}}
use Rattle.ppdb_verify_rules.specs.{Blobs.{in_blob}, Earlier.{HasEarlier, NamesNoRow}, Judged.{ToTable, ToRow, ToCell, IsFirstOf}}
use Rattle.ppdb_verify_rules.specs.{declared.lists.ScopeList.{ScopeList}, declared.lists.ScopeList.TheVariants.{Variables, Constants}, Lists.{list_of, table_of}}
use Rattle.ppdb_verify_rules.specs.{Lists.{column_of}, Rows.{RowFaults, ScopeFault}, Rows.RowFaults.{in_scope}, Rows.ScopeFault.{no_method, out_of_order, no_import}}
use Rattle.ppdb_verify_rules.specs.{Rows.ScopeFault.{no_variables, no_constants, crossing, no_range}, Scopes.{AreCrossed, HasNoRange, IsAbove, IsListOut}}
use Rattle.ppdb_verify_rules.proofs.CellFaults as cells

inside : (raw : RawTables) (code : Code) (at : Place) → RowFaults raw code at → at.table ≡ 0x32
    → (x : ScopeRow) × (row_at raw.scopes at.row ≡ Some x) × ScopeFault raw at.row x at.column at.byte code
inside raw _ _ (in_scope {row} {column} {byte} {code} {x} there fault) t = (x, there, fault)
inside raw _ _ _ t = absurd (omega (arith, t))

module _ (raw : RawTables) where
  pub first_row : ToTable raw 0x32 → ToRow raw 0x32 1
  first_row = cells.first_row raw 0x32 raw.scopes (ScopeFault raw) (inside raw)

  pub past_table : (row : ℕ) → length raw.scopes < row → ToRow raw 0x32 row → ToTable raw 0x33
  past_table = cells.past_table raw 0x32 raw.scopes (ScopeFault raw) (inside raw)

module _ (raw : RawTables) (row : ℕ) (scope : ScopeRow) (there : row_at raw.scopes row ≡ Some scope) where
  next : (column : ℕ) → ToCell raw 0x32 row column → ((byte : ℕ) (code : Code) → ScopeFault raw row scope column byte code → ⊥)
      → ToCell raw 0x32 row (suc column)
  next column = cells.next_cell raw 0x32 raw.scopes (ScopeFault raw) (inside raw) row column scope there

  first : (column : ℕ) (code : Code) (fault : Fault) → ToCell raw 0x32 row column → ScopeFault raw row scope column 0 code
      → ((b : ℕ) (other : Code) → ScopeFault raw row scope column b other → number_of other < number_of code → ⊥)
      → fault ≡ record { code = code; place = in_blob 0x32 row column 0 } → IsFirstOf raw fault
  first column code fault judged wrong =
      cells.first_at raw 0x32 raw.scopes (ScopeFault raw) (inside raw) row column scope code fault there judged (in_scope there wrong)

  pub past_row : ToCell raw 0x32 row 6 → ToRow raw 0x32 (row + 1)
  past_row judged = cells.past_row raw 0x32 raw.scopes (ScopeFault raw) (inside raw) row 6 scope there judged narrow
    where
      narrow : (c byte : ℕ) (code : Code) → ScopeFault raw row scope c byte code → c < 6
      narrow _ _ _ (no_method _) = omega arith
      narrow _ _ _ (out_of_order _) = omega arith
      narrow _ _ _ (no_import _) = omega arith
      narrow _ _ _ (no_variables _) = omega arith
      narrow _ _ _ (no_constants _) = omega arith
      narrow _ _ _ (crossing _) = omega arith
      narrow _ _ _ (no_range _) = omega arith

  -- the method
  pub method_first : (fault : Fault) → ToCell raw 0x32 row 0 → NamesNoRow 1 (count raw 0x06) scope.method
      → fault ≡ record { code = RowIndex; place = in_blob 0x32 row 0 0 } → IsFirstOf raw fault
  method_first fault judged wrong = first 0 RowIndex fault judged (no_method wrong) none
    where
      none : (b : ℕ) (other : Code) → ScopeFault raw row scope 0 b other → number_of other < 22 → ⊥
      none _ _ (no_method _) lower = omega (arith, lower)
      none _ _ (out_of_order _) lower = omega (arith, lower)

  pub order_first : (fault : Fault) → ToCell raw 0x32 row 0 → (NamesNoRow 1 (count raw 0x06) scope.method → ⊥)
      → HasEarlier (λ _ (e : ScopeRow). IsAbove e scope) raw.scopes row
      → fault ≡ record { code = ScopeOrder; place = in_blob 0x32 row 0 0 } → IsFirstOf raw fault
  order_first fault judged right wrong = first 0 ScopeOrder fault judged (out_of_order wrong) none
    where
      none : (b : ℕ) (other : Code) → ScopeFault raw row scope 0 b other → number_of other < 26 → ⊥
      none _ _ (no_method w) lower = right w
      none _ _ (out_of_order _) lower = omega (arith, lower)

  pub method_next : ToCell raw 0x32 row 0 → (NamesNoRow 1 (count raw 0x06) scope.method → ⊥)
      → (HasEarlier (λ _ (e : ScopeRow). IsAbove e scope) raw.scopes row → ⊥) → ToCell raw 0x32 row 1
  method_next judged right ordered = next 0 judged none
    where
      none : (b : ℕ) (other : Code) → ScopeFault raw row scope 0 b other → ⊥
      none _ _ (no_method w) = right w
      none _ _ (out_of_order w) = ordered w

  -- the import scope
  pub import_first : (fault : Fault) → ToCell raw 0x32 row 1 → NamesNoRow 0 (count raw 0x35) scope.import
      → fault ≡ record { code = RowIndex; place = in_blob 0x32 row 1 0 } → IsFirstOf raw fault
  import_first fault judged wrong = first 1 RowIndex fault judged (no_import wrong) none
    where
      none : (b : ℕ) (other : Code) → ScopeFault raw row scope 1 b other → number_of other < 22 → ⊥
      none _ _ (no_import _) lower = omega (arith, lower)

  pub import_next : ToCell raw 0x32 row 1 → (NamesNoRow 0 (count raw 0x35) scope.import → ⊥) → ToCell raw 0x32 row 2
  import_next judged right = next 1 judged none
    where
      none : (b : ℕ) (other : Code) → ScopeFault raw row scope 1 b other → ⊥
      none _ _ (no_import w) = right w

  -- the lists
  pub list_first : (list : ScopeList) (fault : Fault) → ToCell raw 0x32 row (column_of list)
      → IsListOut (list_of list) (count raw (table_of list)) raw.scopes row scope
      → fault ≡ record { code = ListRange; place = in_blob 0x32 row (column_of list) 0 } → IsFirstOf raw fault
  list_first Variables fault judged wrong = first 2 ListRange fault judged (no_variables wrong) none
    where
      none : (b : ℕ) (other : Code) → ScopeFault raw row scope 2 b other → number_of other < 29 → ⊥
      none _ _ (no_variables _) lower = omega (arith, lower)
  list_first Constants fault judged wrong = first 3 ListRange fault judged (no_constants wrong) none
    where
      none : (b : ℕ) (other : Code) → ScopeFault raw row scope 3 b other → number_of other < 29 → ⊥
      none _ _ (no_constants _) lower = omega (arith, lower)

  pub list_next : (list : ScopeList) → ToCell raw 0x32 row (column_of list)
      → (IsListOut (list_of list) (count raw (table_of list)) raw.scopes row scope → ⊥) → ToCell raw 0x32 row (column_of list + 1)
  list_next Variables judged right = next 2 judged none
    where
      none : (b : ℕ) (other : Code) → ScopeFault raw row scope 2 b other → ⊥
      none _ _ (no_variables w) = right w
  list_next Constants judged right = next 3 judged none
    where
      none : (b : ℕ) (other : Code) → ScopeFault raw row scope 3 b other → ⊥
      none _ _ (no_constants w) = right w

  -- the start
  pub crossing_first : (fault : Fault) → ToCell raw 0x32 row 4
      → HasEarlier (λ _ (e : ScopeRow). AreCrossed e scope) raw.scopes row
      → fault ≡ record { code = ScopeCrossing; place = in_blob 0x32 row 4 0 } → IsFirstOf raw fault
  crossing_first fault judged wrong = first 4 ScopeCrossing fault judged (crossing wrong) none
    where
      none : (b : ℕ) (other : Code) → ScopeFault raw row scope 4 b other → number_of other < 28 → ⊥
      none _ _ (crossing _) lower = omega (arith, lower)

  pub crossing_next : ToCell raw 0x32 row 4
      → (HasEarlier (λ _ (e : ScopeRow). AreCrossed e scope) raw.scopes row → ⊥) → ToCell raw 0x32 row 5
  crossing_next judged right = next 4 judged none
    where
      none : (b : ℕ) (other : Code) → ScopeFault raw row scope 4 b other → ⊥
      none _ _ (crossing w) = right w

  -- the length
  pub range_first : (fault : Fault) → ToCell raw 0x32 row 5 → HasNoRange scope
      → fault ≡ record { code = ScopeRange; place = in_blob 0x32 row 5 0 } → IsFirstOf raw fault
  range_first fault judged wrong = first 5 ScopeRange fault judged (no_range wrong) none
    where
      none : (b : ℕ) (other : Code) → ScopeFault raw row scope 5 b other → number_of other < 27 → ⊥
      none _ _ (no_range _) lower = omega (arith, lower)

  pub range_next : ToCell raw 0x32 row 5 → (HasNoRange scope → ⊥) → ToCell raw 0x32 row 6
  range_next judged right = next 5 judged none
    where
      none : (b : ℕ) (other : Code) → ScopeFault raw row scope 5 b other → ⊥
      none _ _ (no_range w) = right w
