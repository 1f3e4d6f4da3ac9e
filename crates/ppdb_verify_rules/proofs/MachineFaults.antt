-- The faults of Machine.
use Rattle.std.proofs.Common.{◌≡◌, ℕ, suc, ◌+◌, ◌<◌, ◌≤◌, length, Some, arith}
use Rattle.ppdb_base.specs.declared.{code.Code.{Code}, code.Code.TheVariants.{RowIndex, MachineOrder, KickoffRepeated}, fault.Place.{Place}, fault.Fault.{Fault}}
use Rattle.ppdb_base.specs.Place.{number_of}
use Rattle.ppdb_tables.specs.{declared.rows.MachineRow.{MachineRow}, RawTables.{RawTables, row_at, count}}
use Rattle.ppdb_verify_rules.specs.{Blobs.{in_blob}, Earlier.{HasEarlier, NamesNoRow}, Judged.{ToTable, ToRow, ToCell, IsFirstOf}, Rows.{RowFaults, MachineFault}}
use Rattle.ppdb_verify_rules.specs.Rows.{RowFaults.{in_machine}, MachineFault.{no_move_next, out_of_order, no_kickoff, same_kickoff}}
use Rattle.ppdb_verify_rules.proofs.CellFaults as cells

inside : (raw : RawTables) (code : Code) (at : Place) → RowFaults raw code at → at.table ≡ 0x36
    → (x : MachineRow) × (row_at raw.machines at.row ≡ Some x) × MachineFault raw at.row x at.column at.byte code
inside raw _ _ (in_machine {row} {column} {byte} {code} {x} there fault) t = (x, there, fault)
inside raw _ _ _ t = absurd (omega (arith, t))

module _ (raw : RawTables) where
  pub first_row : ToTable raw 0x36 → ToRow raw 0x36 1
  first_row = cells.first_row raw 0x36 raw.machines (MachineFault raw) (inside raw)

  pub past_table : (row : ℕ) → length raw.machines < row → ToRow raw 0x36 row → ToTable raw 0x37
  past_table = cells.past_table raw 0x36 raw.machines (MachineFault raw) (inside raw)

module _ (raw : RawTables) (row : ℕ) (machine : MachineRow) (there : row_at raw.machines row ≡ Some machine) where
  next : (column : ℕ) → ToCell raw 0x36 row column → ((byte : ℕ) (code : Code) → MachineFault raw row machine column byte code → ⊥)
      → ToCell raw 0x36 row (suc column)
  next column = cells.next_cell raw 0x36 raw.machines (MachineFault raw) (inside raw) row column machine there

  first : (column : ℕ) (code : Code) (fault : Fault) → ToCell raw 0x36 row column → MachineFault raw row machine column 0 code
      → ((b : ℕ) (other : Code) → MachineFault raw row machine column b other → number_of other < number_of code → ⊥)
      → fault ≡ record { code = code; place = in_blob 0x36 row column 0 } → IsFirstOf raw fault
  first column code fault judged wrong =
      cells.first_at raw 0x36 raw.machines (MachineFault raw) (inside raw) row column machine code fault there judged (in_machine there wrong)

  pub past_row : ToCell raw 0x36 row 2 → ToRow raw 0x36 (row + 1)
  past_row judged = cells.past_row raw 0x36 raw.machines (MachineFault raw) (inside raw) row 2 machine there judged narrow
    where
      narrow : (c byte : ℕ) (code : Code) → MachineFault raw row machine c byte code → c < 2
      narrow _ _ _ (no_move_next _) = omega arith
      narrow _ _ _ (out_of_order _) = omega arith
      narrow _ _ _ (no_kickoff _) = omega arith
      narrow _ _ _ (same_kickoff _) = omega arith

  pub no_move_next_first : (fault : Fault) → ToCell raw 0x36 row 0 → NamesNoRow 1 (count raw 0x06) machine.move_next
      → fault ≡ record { code = RowIndex; place = in_blob 0x36 row 0 0 } → IsFirstOf raw fault
  no_move_next_first fault judged wrong = first 0 RowIndex fault judged (no_move_next wrong) none
    where
      none : (b : ℕ) (other : Code) → MachineFault raw row machine 0 b other → number_of other < 22 → ⊥
      none _ _ (no_move_next _) lower = omega (arith, lower)
      none _ _ (out_of_order _) lower = omega (arith, lower)

  pub out_of_order_first : (fault : Fault) → ToCell raw 0x36 row 0 → (NamesNoRow 1 (count raw 0x06) machine.move_next → ⊥)
      → HasEarlier (λ _ (e : MachineRow). machine.move_next ≤ e.move_next) raw.machines row
      → fault ≡ record { code = MachineOrder; place = in_blob 0x36 row 0 0 } → IsFirstOf raw fault
  out_of_order_first fault judged no0 wrong = first 0 MachineOrder fault judged (out_of_order wrong) none
    where
      none : (b : ℕ) (other : Code) → MachineFault raw row machine 0 b other → number_of other < 33 → ⊥
      none _ _ (no_move_next w) lower = no0 w
      none _ _ (out_of_order _) lower = omega (arith, lower)

  pub next_0 : ToCell raw 0x36 row 0 → (NamesNoRow 1 (count raw 0x06) machine.move_next → ⊥)
      → (HasEarlier (λ _ (e : MachineRow). machine.move_next ≤ e.move_next) raw.machines row → ⊥) → ToCell raw 0x36 row 1
  next_0 judged no0 no1 = next 0 judged none
    where
      none : (b : ℕ) (other : Code) → MachineFault raw row machine 0 b other → ⊥
      none _ _ (no_move_next w) = no0 w
      none _ _ (out_of_order w) = no1 w

  pub no_kickoff_first : (fault : Fault) → ToCell raw 0x36 row 1 → NamesNoRow 1 (count raw 0x06) machine.kickoff
      → fault ≡ record { code = RowIndex; place = in_blob 0x36 row 1 0 } → IsFirstOf raw fault
  no_kickoff_first fault judged wrong = first 1 RowIndex fault judged (no_kickoff wrong) none
    where
      none : (b : ℕ) (other : Code) → MachineFault raw row machine 1 b other → number_of other < 22 → ⊥
      none _ _ (no_kickoff _) lower = omega (arith, lower)
      none _ _ (same_kickoff _) lower = omega (arith, lower)

  pub same_kickoff_first : (fault : Fault) → ToCell raw 0x36 row 1 → (NamesNoRow 1 (count raw 0x06) machine.kickoff → ⊥)
      → HasEarlier (λ _ (e : MachineRow). e.kickoff ≡ machine.kickoff) raw.machines row
      → fault ≡ record { code = KickoffRepeated; place = in_blob 0x36 row 1 0 } → IsFirstOf raw fault
  same_kickoff_first fault judged no0 wrong = first 1 KickoffRepeated fault judged (same_kickoff wrong) none
    where
      none : (b : ℕ) (other : Code) → MachineFault raw row machine 1 b other → number_of other < 34 → ⊥
      none _ _ (no_kickoff w) lower = no0 w
      none _ _ (same_kickoff _) lower = omega (arith, lower)

  pub next_1 : ToCell raw 0x36 row 1 → (NamesNoRow 1 (count raw 0x06) machine.kickoff → ⊥)
      → (HasEarlier (λ _ (e : MachineRow). e.kickoff ≡ machine.kickoff) raw.machines row → ⊥) → ToCell raw 0x36 row 2
  next_1 judged no0 no1 = next 1 judged none
    where
      none : (b : ℕ) (other : Code) → MachineFault raw row machine 1 b other → ⊥
      none _ _ (no_kickoff w) = no0 w
      none _ _ (same_kickoff w) = no1 w
