use Rattle.std.proofs.{Common.{◌≤◌, ◌-◌, ℕ, arith, IsTrue, nat_le}, lemmas.Bool.Decides.{nat_tests}}
use Rattle.ppdb_tables.{specs.RawOf.{raw_of}, proofs.NumberedRows.{row_within}}
use Rattle.ppdb_verify_rules.proofs.Order.{machine_before}
use Rattle.ppdb_verify_rules.proofs.machines.is_out_of_order.Goals as goal

test : (a b : ℕ) → IsTrue (nat_le a b) → a ≤ b
test a b h = grind (arith, nat_tests)

tested : (a b : ℕ) → a ≤ b → IsTrue (nat_le a b)
tested a b h = grind (arith, nat_tests)

pub returns-then-row-gt1 : goal.returns-then-row-gt1
returns-then-row-gt1 g c = (
  (λ yes. record { before = c.args.row - 1; earlier = c.machine.result; there = c.machine.ensures.row; sooner = omega arith; forbidden = test _ _ yes }),
  (λ h. tested _ _ (machine_before (raw_of c.args.tables.now) c.args.row c.args.machine.now c.machine.result c.requires.judged c.machine.ensures.row h)),
)

pub machine-requires : goal.machine-requires
machine-requires g c =
    let w = row_within (raw_of c.args.tables.now).machines c.args.row c.args.machine.now c.requires.there in
    record { there = (omega (arith, w.0), omega (arith, w.1, c.shape.ensures.machines)) }
