-- Rows that are in order up to a place: the row before decides whether some earlier row is greater.
use Rattle.std.proofs.{Common.{◌≡◌, ℕ, ◌-◌, ◌<◌, ◌≤◌, List, Some, refl, subst, arith, inl, inr}, lemmas.Bool.{cases_lt}}
use Rattle.ppdb_base.specs.{declared.code.Code.TheVariants.{ScopeOrder, MachineOrder, CustomOrder}, Place.{cell}}
use Rattle.ppdb_tables.specs.{declared.rows.ScopeRow.{ScopeRow}, declared.rows.MachineRow.{MachineRow}, declared.rows.CustomRow.{CustomRow}, RawTables.{RawTables}}
use Rattle.ppdb_tables.{specs.RawTables.{row_at}, proofs.NumberedRows.{same_row}}
use Rattle.ppdb_verify_rules.specs.{Earlier.{HasEarlier}, Judged.{ToCell}, Rows.RowFaults.{in_scope, in_machine, in_custom}}
use Rattle.ppdb_verify_rules.specs.Rows.{ScopeFault.{out_of_order as scope_order}, MachineFault.{out_of_order as machine_order}}
use Rattle.ppdb_verify_rules.specs.{Rows.CustomFault.{out_of_order as custom_order}, Scopes.{IsAbove}}

-- the row before forbids a row that some earlier one forbids, where earlier rows forbid none of one another
pub row_before : {X : Type 0} (Forbids : X → X → Type 0) (rows : List X) (row : ℕ) (x before : X) → row_at rows (row - 1) ≡ Some before
    → ((i j : ℕ) (a b : X) → row_at rows i ≡ Some a → row_at rows j ≡ Some b → i < j → j < row → Forbids a b → ⊥)
    → ((a b : X) → Forbids a x → (Forbids a b → ⊥) → Forbids b x)
    → HasEarlier (λ _ (e : X). Forbids e x) rows row → Forbids before x
row_before Forbids rows row x before there in_order up h =
    let sooner : h.before < row = h.sooner in
    elim (cases_lt h.before (row - 1)) [
      | inl lt ↦ up h.earlier before h.forbidden (in_order h.before (row - 1) h.earlier before h.there there lt (omega (arith, sooner)))
      | inr ge ↦
          let e : h.before ≡ row - 1 = omega (arith, sooner, ge) in
          subst (λ y. Forbids y x) (same_row rows (row - 1) h.earlier before (subst (λ (n : ℕ). row_at rows n ≡ Some h.earlier) e h.there) there) h.forbidden
    ]

-- where nothing is bad before a row, the earlier scopes are in order
pub scopes_in_order : (raw : RawTables) (row column i j : ℕ) (x y : ScopeRow) → ToCell raw 0x32 row column
    → row_at raw.scopes i ≡ Some x → row_at raw.scopes j ≡ Some y → i < j → j < row → IsAbove x y → ⊥
scopes_in_order raw row column i j x y judged ix jy ij jr above =
    judged ScopeOrder (cell 0x32 j 0) (in_scope jy (scope_order (record { before = i; earlier = x; there = ix; sooner = ij; forbidden = above })))
    (inr (refl, inr (refl, inl jr)))

above_up : (a b c : ScopeRow) → IsAbove a c → (IsAbove a b → ⊥) → IsAbove b c
above_up a b c above not_above = grind arith

pub scope_before : (raw : RawTables) (row column : ℕ) (scope before : ScopeRow) → ToCell raw 0x32 row column
    → row_at raw.scopes (row - 1) ≡ Some before → HasEarlier (λ _ (e : ScopeRow). IsAbove e scope) raw.scopes row
    → IsAbove before scope
scope_before raw row column scope before judged there =
    row_before IsAbove raw.scopes row scope before there
    (λ i j a b. scopes_in_order raw row column i j a b judged) (λ a b. above_up a b scope)

-- the earlier machines rise by their MoveNext methods
pub machine_before : (raw : RawTables) (row : ℕ) (machine before : MachineRow) → ToCell raw 0x36 row 0
    → row_at raw.machines (row - 1) ≡ Some before → HasEarlier (λ _ (e : MachineRow). machine.move_next ≤ e.move_next) raw.machines row
    → machine.move_next ≤ before.move_next
machine_before raw row machine before judged there =
    row_before (λ (a : MachineRow) (b : MachineRow). b.move_next ≤ a.move_next) raw.machines row machine before there
    (λ i j a b ia jb ij jr high. judged MachineOrder (cell 0x36 j 0)
    (in_machine jb (machine_order (record { before = i; earlier = a; there = ia; sooner = ij; forbidden = high }))) (inr (refl, inr (refl, inl jr))))
    (λ a b high low. elim (cases_lt a.move_next b.move_next) [ inl rises ↦ omega (arith, high, rises) | inr falls ↦ absurd (low falls) ])

-- the earlier custom records do not fall by their coded parents
pub custom_before : (raw : RawTables) (row : ℕ) (custom before : CustomRow) → ToCell raw 0x37 row 0
    → row_at raw.customs (row - 1) ≡ Some before → HasEarlier (λ _ (e : CustomRow). custom.parent < e.parent) raw.customs row
    → custom.parent < before.parent
custom_before raw row custom before judged there = row_before (λ (a : CustomRow) (b : CustomRow). b.parent < a.parent) raw.customs row custom before there
    (λ i j a b ia jb ij jr high. judged CustomOrder (cell 0x37 j 0)
    (in_custom jb (custom_order (record { before = i; earlier = a; there = ia; sooner = ij; forbidden = high }))) (inr (refl, inr (refl, inl jr))))
    (λ a b high low. elim (cases_lt b.parent a.parent) [ inl falls ↦ absurd (low falls) | inr rises ↦ omega (arith, high, rises) ])
