use Rattle.ppdb_tables.specs.RawOf.{raw_of}
use Rattle.std.proofs.Common.{arith}
use Rattle.ppdb_verify_rules.proofs.{CellFaults.{refuted}, CustomFaults.{no_parent_first, no_tag_first, out_of_order_first, next_0}}
use Rattle.ppdb_verify_rules.proofs.customs.judge_parent.Goals as goal

pub returns-then-has_no_parent-clause-err : goal.returns-then-has_no_parent-clause-err
returns-then-has_no_parent-clause-err g c =
    no_parent_first (raw_of c.args.tables.now) c.args.row c.args.custom.now c.requires.there c.fault.result c.requires.judged
    (c.has_no_parent.ensures.0 c.if-has_no_parent.true) c.fault.ensures

pub returns-then-custom-gt26-clause-err : goal.returns-then-custom-gt26-clause-err
returns-then-custom-gt26-clause-err g c =
    no_tag_first (raw_of c.args.tables.now) c.args.row c.args.custom.now c.requires.there c.fault-then-custom-gt26.result c.requires.judged
    (refuted c.has_no_parent.result c.has_no_parent.ensures c.if-has_no_parent.false) c.if-custom-gt26.true c.fault-then-custom-gt26.ensures

pub returns-then-is_below_earlier-clause-err : goal.returns-then-is_below_earlier-clause-err
returns-then-is_below_earlier-clause-err g c =
    out_of_order_first (raw_of c.args.tables.now) c.args.row c.args.custom.now c.requires.there c.fault-then-is_below_earlier.result c.requires.judged
    (refuted c.has_no_parent.result c.has_no_parent.ensures c.if-has_no_parent.false) (λ above. omega (arith, above, c.if-custom-gt26.false))
    (c.is_below_earlier.ensures.0 c.if-is_below_earlier.true) c.fault-then-is_below_earlier.ensures

pub returns-clause-ok : goal.returns-clause-ok
returns-clause-ok g c = next_0 (raw_of c.args.tables.now) c.args.row c.args.custom.now c.requires.there c.requires.judged
    (refuted c.has_no_parent.result c.has_no_parent.ensures c.if-has_no_parent.false) (λ above. omega (arith, above, c.if-custom-gt26.false))
    (refuted c.is_below_earlier.result c.is_below_earlier.ensures c.if-is_below_earlier.false)
