use Rattle.std.proofs.Common.{◌<◌, ◌-◌, length, get_or, ap, ◌∙◌, arith, refl}
use Rattle.ppdb_tables.proofs.Walks.{row_ends, marks_end, walk_cycles, joins_end, walk_on, ends_decides, past_end}
use Rattle.ppdb_values_check.{proofs.Parents.{parent_here}, specs.Chains.{parent_of}}
use Rattle.ppdb_values.specs.declared.import.ImportScopeValue.{ImportScopeValue}
use Rattle.ppdb_values_check.proofs.chains.never_ends.Goals as goal

pub returns-then-mark-row-clause-value : goal.returns-then-mark-row-clause-value
returns-then-mark-row-clause-value c = (
  (λ _. walk_cycles (parent_of c.args.imports.now) refl (length c.args.imports.now) c.args.row c.loop-at.at c.loop-at.marks c.loop-at.invariant
      c.loop-at-test.true
      (omega (arith, c.loop-at.invariant.one_each)) c.if-mark-row.true),
  (λ _. refl),
)

pub returns-then-mark-ne0-clause-value : goal.returns-then-mark-ne0-clause-value
returns-then-mark-ne0-clause-value c =
    let within : c.loop-at.at - 1 < length c.loop-at.marks = omega (arith, c.loop-at.invariant.one_each) in
    ends_decides (parent_of c.args.imports.now) refl c.args.row
    (row_ends (parent_of c.args.imports.now) refl (length c.args.imports.now) c.args.row c.loop-at.at c.loop-at.marks c.loop-at.invariant
    (joins_end (parent_of c.args.imports.now) refl (length c.args.imports.now) c.args.row c.loop-at.at c.loop-at.marks c.loop-at.invariant c.loop-at-test.true
    within c.if-mark-ne0.true c.if-mark-row.false))

pub returns-then-mark-ne0-clause-marks : goal.returns-then-mark-ne0-clause-marks
returns-then-mark-ne0-clause-marks c =
    let within : c.loop-at.at - 1 < length c.loop-at.marks = omega (arith, c.loop-at.invariant.one_each) in
    marks_end (parent_of c.args.imports.now) refl (length c.args.imports.now) c.args.row c.loop-at.at c.loop-at.marks c.loop-at.invariant
    (joins_end (parent_of c.args.imports.now) refl (length c.args.imports.now) c.args.row c.loop-at.at c.loop-at.marks c.loop-at.invariant c.loop-at-test.true
    within c.if-mark-ne0.true c.if-mark-row.false)

pub loop-at-preserved : goal.loop-at-preserved
loop-at-preserved c =
    let some : 0 < c.loop-at.at = omega (arith, c.loop-at-test.true) in
    walk_on (parent_of c.args.imports.now) refl (length c.args.imports.now) c.args.row c.loop-at.at c.loop-at.marks c.loop-at.invariant
    (get_or c.args.imports.now (c.loop-at.at - 1) c.index-imports-at.result).parent
    (parent_here c.args.imports.now c.loop-at.at c.index-imports-at.result some c.if-at-imports.true c.index-imports-at.is
    ∙ ap (λ scope. scope.parent) c.index-imports-at.is)
    some (omega (arith, c.loop-at.invariant.one_each))

pub returns-else-at-imports-clause-value : goal.returns-else-at-imports-clause-value
returns-else-at-imports-clause-value c =
    ends_decides (parent_of c.args.imports.now) refl c.args.row
    (row_ends (parent_of c.args.imports.now) refl (length c.args.imports.now) c.args.row c.loop-at.at c.loop-at.marks c.loop-at.invariant
    (past_end (λ (scope : ImportScopeValue). scope.parent) c.args.imports.now c.loop-at.at c.if-at-imports.false))

pub returns-else-at-imports-clause-marks : goal.returns-else-at-imports-clause-marks
returns-else-at-imports-clause-marks c =
    marks_end (parent_of c.args.imports.now) refl (length c.args.imports.now) c.args.row c.loop-at.at c.loop-at.marks c.loop-at.invariant
    (past_end (λ (scope : ImportScopeValue). scope.parent) c.args.imports.now c.loop-at.at c.if-at-imports.false)

pub returns-after-loop-at-clause-marks : goal.returns-after-loop-at-clause-marks
returns-after-loop-at-clause-marks c =
    marks_end (parent_of c.args.imports.now) refl (length c.args.imports.now) c.args.row c.loop-at.at c.loop-at.marks c.loop-at.invariant (
      0,
      c.loop-at-test.false,
    )
