use Rattle.std.proofs.{Common.{◌<◌, ◌-◌, ℕ, arith, IsTrue, nat_lt}, lemmas.Bool.Decides.{nat_tests}}
use Rattle.ppdb_tables.{specs.RawOf.{raw_of}, proofs.NumberedRows.{row_within}}
use Rattle.ppdb_verify_rules.proofs.Order.{custom_before}
use Rattle.ppdb_verify_rules.proofs.customs.is_below_earlier.Goals as goal

test : (a b : ℕ) → IsTrue (nat_lt a b) → a < b
test a b h = grind (arith, nat_tests)

tested : (a b : ℕ) → a < b → IsTrue (nat_lt a b)
tested a b h = grind (arith, nat_tests)

pub returns-then-row-gt1 : goal.returns-then-row-gt1
returns-then-row-gt1 g c = (
  (λ yes. record { before = c.args.row - 1; earlier = c.custom.result; there = c.custom.ensures.row; sooner = omega arith; forbidden = test _ _ yes }),
  (λ h. tested _ _ (custom_before (raw_of c.args.tables.now) c.args.row c.args.custom.now c.custom.result c.requires.judged c.custom.ensures.row h)),
)

pub custom-requires : goal.custom-requires
custom-requires g c =
    let w = row_within (raw_of c.args.tables.now).customs c.args.row c.args.custom.now c.requires.there in
    record { there = (omega (arith, w.0), omega (arith, w.1, c.shape.ensures.customs)) }
