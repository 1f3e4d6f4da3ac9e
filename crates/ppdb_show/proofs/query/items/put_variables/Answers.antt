use Rattle.std.proofs.Common.{refl, arith}
use Rattle.ppdb_tables.specs.RawOf.{raw_of}
use Rattle.ppdb_verify.specs.Views.{tables_of}
use Rattle.ppdb_queries.proofs.Views.{run_step}
use Rattle.ppdb_show.proofs.{Added.{walk_none, walk_next, walk_cut, walk_done, walk_cost}, Runs.{run_done}}
use Rattle.ppdb_show.proofs.query.items.put_variables.Goals as goal

pub variables-init : goal.variables-init
variables-init g c =
    record { from = c.requires.first; to = c.requires.forward; last = c.requires.last; walk = walk_none _ _ _ _ _ _ _ refl (omega arith); later = omega arith }

pub variables-preserved : goal.variables-preserved
variables-preserved g c =
    let raw = raw_of (tables_of c.args.file.now) in
    record {
      from = omega arith;
      to = omega arith;
      last = c.variables.invariant.last;
      walk = walk_next _ _ _ _ _ (c.variables.row, c.variable-variable.result) _ _ _ _ _ _ c.variables.invariant.walk
          (run_step raw.variables c.variables.row c.args.run.end c.variable-variable.result c.variable-variable.ensures.row c.variables-test.true)
          c.in_ok-put_variable.ensures.ok (omega arith);
      later = omega arith;
    }

pub returns-in_err-put_variable-clause-cost : goal.returns-in_err-put_variable-clause-cost
returns-in_err-put_variable-clause-cost g c =
    let raw = raw_of (tables_of c.args.file.now) in
    walk_cut _ _ _ _ _ (c.variables.row, c.variable-variable.result) _ _ _ _ _ c.variables.invariant.walk
    (run_step raw.variables c.variables.row c.args.run.end c.variable-variable.result c.variable-variable.ensures.row c.variables-test.true) (omega arith)

pub returns-clause-ok : goal.returns-clause-ok
returns-clause-ok g c = walk_done _ _ _ _ _ _ _ _ c.variables.invariant.walk (run_done _ c.variables.row c.args.run.end (omega arith))

pub returns-clause-cost : goal.returns-clause-cost
returns-clause-cost g c = walk_cost _ _ _ _ _ _ _ _ c.variables.invariant.walk
