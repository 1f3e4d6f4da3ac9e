use Rattle.std.proofs.Common.{arith, length, refl}
use Rattle.ppdb_tables.{specs.RawOf.{raw_of}, specs.declared.rows.ImportRow.{ImportRow}, proofs.NumberedRows.{row_within}, proofs.Walks.{row_ends, marks_end}}
use Rattle.ppdb_tables.proofs.Walks.{walk_cycles, joins_end, walk_on, ends_decides, parent_is, past_end}
use Rattle.ppdb_verify_rules.specs.Chains.{parent_in}
use Rattle.ppdb_verify_rules.proofs.imports.never_ends.Goals as goal

pub returns-then-mark-row-clause-value : goal.returns-then-mark-row-clause-value
returns-then-mark-row-clause-value g c =
    let imports = (raw_of c.args.tables.now).imports in (
      (λ _. walk_cycles (parent_in imports) refl (length imports) c.args.row c.loop-at.at c.loop-at.marks c.loop-at.invariant c.loop-at-test.true
          (omega (arith, c.loop-at.invariant.one_each, c.row_count-count.ensures.count, c.row_count-count.ensures.all.imports)) c.if-mark-row.true),
      (λ _. refl),
    )

pub returns-then-mark-ne0-clause-value : goal.returns-then-mark-ne0-clause-value
returns-then-mark-ne0-clause-value g c =
    let imports = (raw_of c.args.tables.now).imports in
    ends_decides (parent_in imports) refl c.args.row
    (row_ends (parent_in imports) refl (length imports) c.args.row c.loop-at.at c.loop-at.marks c.loop-at.invariant
    (joins_end (parent_in imports) refl (length imports) c.args.row c.loop-at.at c.loop-at.marks c.loop-at.invariant c.loop-at-test.true
    (omega (arith, c.loop-at.invariant.one_each, c.row_count-count.ensures.count, c.row_count-count.ensures.all.imports)) c.if-mark-ne0.true
    c.if-mark-row.false))

pub returns-then-mark-ne0-clause-marks : goal.returns-then-mark-ne0-clause-marks
returns-then-mark-ne0-clause-marks g c =
    let imports = (raw_of c.args.tables.now).imports in
    marks_end (parent_in imports) refl (length imports) c.args.row c.loop-at.at c.loop-at.marks c.loop-at.invariant
    (joins_end (parent_in imports) refl (length imports) c.args.row c.loop-at.at c.loop-at.marks c.loop-at.invariant c.loop-at-test.true
    (omega (arith, c.loop-at.invariant.one_each, c.row_count-count.ensures.count, c.row_count-count.ensures.all.imports)) c.if-mark-ne0.true
    c.if-mark-row.false)

pub loop-at-preserved : goal.loop-at-preserved
loop-at-preserved g c =
    let imports = (raw_of c.args.tables.now).imports in
    walk_on (parent_in imports) refl (length imports) c.args.row c.loop-at.at c.loop-at.marks c.loop-at.invariant c.import-at.result.parent
    (parent_is (λ (i : ImportRow). i.parent) imports c.loop-at.at c.import-at.result c.import-at.ensures.row)
    (row_within imports c.loop-at.at c.import-at.result c.import-at.ensures.row).0
    (omega (arith, c.loop-at.invariant.one_each, c.row_count-count.ensures.count, c.row_count-count.ensures.all.imports))

pub returns-else-at-count-clause-value : goal.returns-else-at-count-clause-value
returns-else-at-count-clause-value g c =
    let imports = (raw_of c.args.tables.now).imports in
    ends_decides (parent_in imports) refl c.args.row
    (row_ends (parent_in imports) refl (length imports) c.args.row c.loop-at.at c.loop-at.marks c.loop-at.invariant
    (past_end (λ (i : ImportRow). i.parent) imports c.loop-at.at (omega (arith, c.row_count-count.ensures.count, c.row_count-count.ensures.all.imports))))

pub returns-else-at-count-clause-marks : goal.returns-else-at-count-clause-marks
returns-else-at-count-clause-marks g c =
    let imports = (raw_of c.args.tables.now).imports in
    marks_end (parent_in imports) refl (length imports) c.args.row c.loop-at.at c.loop-at.marks c.loop-at.invariant
    (past_end (λ (i : ImportRow). i.parent) imports c.loop-at.at (omega (arith, c.row_count-count.ensures.count, c.row_count-count.ensures.all.imports)))

pub returns-after-loop-at-clause-marks : goal.returns-after-loop-at-clause-marks
returns-after-loop-at-clause-marks g c =
    let imports = (raw_of c.args.tables.now).imports in
    marks_end (parent_in imports) refl (length imports) c.args.row c.loop-at.at c.loop-at.marks c.loop-at.invariant (0, c.loop-at-test.false)
