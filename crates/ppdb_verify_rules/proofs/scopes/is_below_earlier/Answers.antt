use Rattle.std.proofs.Common.{◌-◌, arith}
use Rattle.ppdb_tables.{specs.RawOf.{raw_of}, proofs.NumberedRows.{row_within}}
use Rattle.ppdb_verify_rules.proofs.Order.{scope_before}
use Rattle.ppdb_verify_rules.proofs.scopes.is_below_earlier.Goals as goal

pub returns-then-row-gt1 : goal.returns-then-row-gt1
returns-then-row-gt1 g c = (
  (λ yes. record {
    before = c.args.row - 1;
    earlier = c.scope.result;
    there = c.scope.ensures.row;
    sooner = omega arith;
    forbidden = c.is_above.ensures.0 yes;
  }),
  (λ below. c.is_above.ensures.1 (scope_before (raw_of c.args.tables.now) c.args.row 0 c.args.scope.now c.scope.result c.requires.judged c.scope.ensures.row
      below)),
)

pub scope-requires : goal.scope-requires
scope-requires g c =
    let w = row_within (raw_of c.args.tables.now).scopes c.args.row c.args.scope.now c.requires.there in
    record { there = (omega (arith, w.0), omega (arith, w.1, c.shape.ensures.scopes)) }
