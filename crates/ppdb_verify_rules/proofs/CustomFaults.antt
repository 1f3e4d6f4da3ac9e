-- The faults of Custom.
use Rattle.std.proofs.Common.{◌≡◌, ℕ, suc, ◌+◌, ◌<◌, ◌⊎◌, ◌%◌, length, Some, None, arith}
use Rattle.ppdb_base.specs.declared.code.{Code.{Code}, Code.TheVariants.{BlobIndex, GuidIndex, RowIndex, CodedTag, CustomOrder, KindParent}}
use Rattle.ppdb_base.specs.{declared.fault.BlobFault.{BlobFault}, declared.fault.Place.{Place}, declared.fault.Fault.{Fault}, Place.{number_of}}
use Rattle.ppdb_heaps.specs.Heaps.{blob_at}
use Rattle.ppdb_tables.specs.{declared.rows.CustomRow.{CustomRow}, RawTables.{RawTables, row_at}}
use Rattle.ppdb_verify_rules.specs.{Blobs.{NamesNoGuid, in_blob}, Earlier.{HasEarlier}, Judged.{ToTable, ToRow, ToCell, IsFirstOf}, Rows.{RowFaults, CustomFault}}
use Rattle.ppdb_verify_rules.specs.Rows.{RowFaults.{in_custom}, CustomFault.{no_parent, no_tag, out_of_order, no_kind, other_parent, no_value, invalid_value}}
use Rattle.ppdb_verify_rules.{specs.Customs.{HasInvalidValue, HasNoParent, HasOtherParent}, proofs.BlobFaults.{one_invalid_value, value_not_there}}
use Rattle.ppdb_verify_rules.proofs.CellFaults as cells

inside : (raw : RawTables) (code : Code) (at : Place) → RowFaults raw code at → at.table ≡ 0x37
    → (x : CustomRow) × (row_at raw.customs at.row ≡ Some x) × CustomFault raw at.row x at.column at.byte code
inside raw _ _ (in_custom {row} {column} {byte} {code} {x} there fault) t = (x, there, fault)
inside raw _ _ _ t = absurd (omega (arith, t))

module _ (raw : RawTables) where
  pub first_row : ToTable raw 0x37 → ToRow raw 0x37 1
  first_row = cells.first_row raw 0x37 raw.customs (CustomFault raw) (inside raw)

  pub past_table : (row : ℕ) → length raw.customs < row → ToRow raw 0x37 row → ToTable raw 0x38
  past_table = cells.past_table raw 0x37 raw.customs (CustomFault raw) (inside raw)

module _ (raw : RawTables) (row : ℕ) (custom : CustomRow) (there : row_at raw.customs row ≡ Some custom) where
  next : (column : ℕ) → ToCell raw 0x37 row column → ((byte : ℕ) (code : Code) → CustomFault raw row custom column byte code → ⊥)
      → ToCell raw 0x37 row (suc column)
  next column = cells.next_cell raw 0x37 raw.customs (CustomFault raw) (inside raw) row column custom there

  first : (column : ℕ) (code : Code) (fault : Fault) → ToCell raw 0x37 row column → CustomFault raw row custom column 0 code
      → ((b : ℕ) (other : Code) → CustomFault raw row custom column b other → number_of other < number_of code → ⊥)
      → fault ≡ record { code = code; place = in_blob 0x37 row column 0 } → IsFirstOf raw fault
  first column code fault judged wrong =
      cells.first_at raw 0x37 raw.customs (CustomFault raw) (inside raw) row column custom code fault there judged (in_custom there wrong)

  first_within : (column : ℕ) (fault : Fault) (inner : BlobFault) → ToCell raw 0x37 row column → CustomFault raw row custom column inner.byte inner.code
      → ((b : ℕ) (other : Code) → CustomFault raw row custom column b other → (b < inner.byte) ⊎ ((b ≡ inner.byte) × (number_of other < number_of inner.code))
      → ⊥)
      → fault ≡ record { code = inner.code; place = in_blob 0x37 row column inner.byte } → IsFirstOf raw fault
  first_within column fault inner judged wrong =
      cells.first_within raw 0x37 raw.customs (CustomFault raw) (inside raw) row column custom fault inner there judged (in_custom there wrong)

  pub past_row : ToCell raw 0x37 row 3 → ToRow raw 0x37 (row + 1)
  past_row judged = cells.past_row raw 0x37 raw.customs (CustomFault raw) (inside raw) row 3 custom there judged narrow
    where
      narrow : (c byte : ℕ) (code : Code) → CustomFault raw row custom c byte code → c < 3
      narrow _ _ _ (no_parent _) = omega arith
      narrow _ _ _ (no_tag _) = omega arith
      narrow _ _ _ (out_of_order _) = omega arith
      narrow _ _ _ (no_kind _) = omega arith
      narrow _ _ _ (other_parent _) = omega arith
      narrow _ _ _ (no_value _) = omega arith
      narrow _ _ _ (invalid_value _) = omega arith

  pub no_parent_first : (fault : Fault) → ToCell raw 0x37 row 0 → HasNoParent raw custom.parent
      → fault ≡ record { code = RowIndex; place = in_blob 0x37 row 0 0 } → IsFirstOf raw fault
  no_parent_first fault judged wrong = first 0 RowIndex fault judged (no_parent wrong) none
    where
      none : (b : ℕ) (other : Code) → CustomFault raw row custom 0 b other → number_of other < 22 → ⊥
      none _ _ (no_parent _) lower = omega (arith, lower)
      none _ _ (no_tag _) lower = omega (arith, lower)
      none _ _ (out_of_order _) lower = omega (arith, lower)

  pub no_tag_first : (fault : Fault) → ToCell raw 0x37 row 0 → (HasNoParent raw custom.parent → ⊥) → 26 < custom.parent % 32
      → fault ≡ record { code = CodedTag; place = in_blob 0x37 row 0 0 } → IsFirstOf raw fault
  no_tag_first fault judged no0 wrong = first 0 CodedTag fault judged (no_tag wrong) none
    where
      none : (b : ℕ) (other : Code) → CustomFault raw row custom 0 b other → number_of other < 23 → ⊥
      none _ _ (no_parent w) lower = no0 w
      none _ _ (no_tag _) lower = omega (arith, lower)
      none _ _ (out_of_order _) lower = omega (arith, lower)

  pub out_of_order_first : (fault : Fault) → ToCell raw 0x37 row 0 → (HasNoParent raw custom.parent → ⊥) → (26 < custom.parent % 32 → ⊥)
      → HasEarlier (λ _ (e : CustomRow). custom.parent < e.parent) raw.customs row
      → fault ≡ record { code = CustomOrder; place = in_blob 0x37 row 0 0 } → IsFirstOf raw fault
  out_of_order_first fault judged no0 no1 wrong = first 0 CustomOrder fault judged (out_of_order wrong) none
    where
      none : (b : ℕ) (other : Code) → CustomFault raw row custom 0 b other → number_of other < 35 → ⊥
      none _ _ (no_parent w) lower = no0 w
      none _ _ (no_tag w) lower = no1 w
      none _ _ (out_of_order _) lower = omega (arith, lower)

  pub next_0 : ToCell raw 0x37 row 0 → (HasNoParent raw custom.parent → ⊥) → (26 < custom.parent % 32 → ⊥)
      → (HasEarlier (λ _ (e : CustomRow). custom.parent < e.parent) raw.customs row → ⊥) → ToCell raw 0x37 row 1
  next_0 judged no0 no1 no2 = next 0 judged none
    where
      none : (b : ℕ) (other : Code) → CustomFault raw row custom 0 b other → ⊥
      none _ _ (no_parent w) = no0 w
      none _ _ (no_tag w) = no1 w
      none _ _ (out_of_order w) = no2 w

  pub no_kind_first : (fault : Fault) → ToCell raw 0x37 row 1 → NamesNoGuid 1 raw.guids custom.kind
      → fault ≡ record { code = GuidIndex; place = in_blob 0x37 row 1 0 } → IsFirstOf raw fault
  no_kind_first fault judged wrong = first 1 GuidIndex fault judged (no_kind wrong) none
    where
      none : (b : ℕ) (other : Code) → CustomFault raw row custom 1 b other → number_of other < 21 → ⊥
      none _ _ (no_kind _) lower = omega (arith, lower)
      none _ _ (other_parent _) lower = omega (arith, lower)

  pub other_parent_first : (fault : Fault) → ToCell raw 0x37 row 1 → (NamesNoGuid 1 raw.guids custom.kind → ⊥) → HasOtherParent raw.guids custom
      → fault ≡ record { code = KindParent; place = in_blob 0x37 row 1 0 } → IsFirstOf raw fault
  other_parent_first fault judged no0 wrong = first 1 KindParent fault judged (other_parent wrong) none
    where
      none : (b : ℕ) (other : Code) → CustomFault raw row custom 1 b other → number_of other < 36 → ⊥
      none _ _ (no_kind w) lower = no0 w
      none _ _ (other_parent _) lower = omega (arith, lower)

  pub next_1 : ToCell raw 0x37 row 1 → (NamesNoGuid 1 raw.guids custom.kind → ⊥) → (HasOtherParent raw.guids custom → ⊥) → ToCell raw 0x37 row 2
  next_1 judged no0 no1 = next 1 judged none
    where
      none : (b : ℕ) (other : Code) → CustomFault raw row custom 1 b other → ⊥
      none _ _ (no_kind w) = no0 w
      none _ _ (other_parent w) = no1 w

  pub no_value_first : (fault : Fault) → ToCell raw 0x37 row 2 → blob_at raw.blobs custom.value ≡ None
      → fault ≡ record { code = BlobIndex; place = in_blob 0x37 row 2 0 } → IsFirstOf raw fault
  no_value_first fault judged wrong = first 2 BlobIndex fault judged (no_value wrong) none
    where
      none : (b : ℕ) (other : Code) → CustomFault raw row custom 2 b other → number_of other < 20 → ⊥
      none _ _ (no_value _) lower = omega (arith, lower)
      none _ _ (invalid_value w) lower = value_not_there w wrong

  pub invalid_value_first : (fault : Fault) (inner : BlobFault) → ToCell raw 0x37 row 2 → HasInvalidValue raw custom inner
      → fault ≡ record { code = inner.code; place = in_blob 0x37 row 2 inner.byte } → IsFirstOf raw fault
  invalid_value_first fault inner judged wrong = first_within 2 fault inner judged (invalid_value {fault = inner} wrong) none
    where
      none : (b : ℕ) (other : Code) → CustomFault raw row custom 2 b other → (b < inner.byte) ⊎ ((b ≡ inner.byte) × (number_of other < number_of inner.code))
          → ⊥
      none _ _ (no_value w) lower = value_not_there wrong w
      none _ _ (invalid_value {fault = other} w) lower = one_invalid_value wrong w lower

  pub next_2 : ToCell raw 0x37 row 2 → (blob_at raw.blobs custom.value ≡ None → ⊥) → ((fault : BlobFault) → HasInvalidValue raw custom fault → ⊥)
      → ToCell raw 0x37 row 3
  next_2 judged no0 no1 = next 2 judged none
    where
      none : (b : ℕ) (other : Code) → CustomFault raw row custom 2 b other → ⊥
      none _ _ (no_value w) = no0 w
      none _ _ (invalid_value {fault} w) = no1 fault w
