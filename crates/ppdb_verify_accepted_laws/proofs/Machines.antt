-- The state machines keep their rules.
use Rattle.std.{proofs.Common.{◌≡◌, ℕ, ◌<◌, inl, inr}, specs.Prelude.{Some}, proofs.lemmas.Bool.{cases_lt}}
use Rattle.ppdb_base.specs.{declared.code.Code.{Code}, First.{IsAccepted}}
use Rattle.ppdb_tables.specs.{declared.rows.MachineRow.{MachineRow}, RawTables.{RawTables, count, row_at}}
use Rattle.ppdb_verify_rules.specs.{Rows.{RowFaults, MachineFault}, Rows.RowFaults.{in_machine}, Rows.MachineFault.{no_move_next, out_of_order, no_kickoff}}
use Rattle.ppdb_verify_rules.specs.Rows.MachineFault.{same_kickoff}
use Rattle.ppdb_values.specs.Rules.{KeepsMachines}
use Rattle.ppdb_verify_accepted_laws.proofs.{Items.{row_named}, Orders.{rises_by}}

module _ (raw : RawTables) (accepted : IsAccepted (RowFaults raw)) where
  no_fault : (row : ℕ) (x : MachineRow) → row_at raw.machines row ≡ Some x → {column byte : ℕ} {code : Code} → MachineFault raw row x column byte code → ⊥
  no_fault row x here fault = accepted _ _ (in_machine here fault)

  move_next_up : (a b : ℕ) (x y : MachineRow) → row_at raw.machines a ≡ Some x → row_at raw.machines b ≡ Some y → a < b → x.move_next < y.move_next
  move_next_up a b x y hx hy less = elim (cases_lt x.move_next y.move_next) [
    | inl up ↦ up
    | inr falls ↦ absurd (no_fault b y hy (out_of_order (record { before = a; earlier = x; there = hx; sooner = less; forbidden = falls })))
  ]

  pub machines_kept : KeepsMachines raw
  machines_kept = record {
    each = λ row x here. record {
      move_next = row_named 1 (count raw 0x06) x.move_next (λ none. no_fault row x here (no_move_next none));
      kickoff = row_named 1 (count raw 0x06) x.kickoff (λ none. no_fault row x here (no_kickoff none));
    };
    by_move_next = rises_by (λ machine. machine.move_next) raw.machines move_next_up;
    kickoffs_differ = λ a b x y hx hy less same.
        no_fault b y hy (same_kickoff (record { before = a; earlier = x; there = hx; sooner = less; forbidden = same }));
  }
