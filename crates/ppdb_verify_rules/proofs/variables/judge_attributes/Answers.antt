use Rattle.ppdb_tables.specs.RawOf.{raw_of}
use Rattle.ppdb_verify_rules.proofs.{ListOwners.{variables_from_1}, VariableFaults.{alone_first, next_0}}
use Rattle.ppdb_verify_rules.proofs.variables.judge_attributes.Goals as goal

pub returns-then-row_count-eq0-clause-err : goal.returns-then-row_count-eq0-clause-err
returns-then-row_count-eq0-clause-err c =
    alone_first (raw_of c.args.tables.now) c.args.row c.args.variable.now c.requires.there c.fault.result c.requires.judged (
      variables_from_1 (raw_of c.args.tables.now) c.args.row c.args.variable.now c.requires.there c.requires.judged
          (rw c.row_count.ensures.count at c.if-row_count-eq0.true),
      rw c.row_count.ensures.count at c.if-row_count-eq0.true,
    )
    c.fault.ensures

pub returns-clause-ok : goal.returns-clause-ok
returns-clause-ok c = next_0 (raw_of c.args.tables.now) c.args.row c.args.variable.now c.requires.there c.requires.judged
    (λ alone. c.if-row_count-eq0.false (rw c.row_count.ensures.count alone.1))
