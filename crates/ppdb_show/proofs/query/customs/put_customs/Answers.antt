use Rattle.std.proofs.Common.{refl, arith}
use Rattle.ppdb_tables.specs.{Parents.{coded_in}, RawOf.{raw_of}}
use Rattle.ppdb_verify.specs.Views.{tables_of}
use Rattle.ppdb_queries.proofs.Views.{run_step}
use Rattle.ppdb_show.proofs.{Added.{walk_none, walk_next, walk_cut, walk_done, walk_cost}, Runs.{bounds, run_done}, Shown.{customs_all, customs_many}}
use Rattle.ppdb_show.proofs.query.customs.put_customs.Goals as goal

pub customs-init : goal.customs-init
customs-init g c =
    let raw = raw_of (tables_of c.args.file.now) in
    let b = bounds (coded_in c.args.parent) (λ custom. custom.parent) raw.customs c.customs_of-run.result c.requires.tag c.customs_of-run.ensures.run in
    record { from = b.0; to = b.1; last = b.2; walk = walk_none _ _ _ _ _ _ _ refl (omega arith); later = omega arith }

pub customs-preserved : goal.customs-preserved
customs-preserved g c =
    let raw = raw_of (tables_of c.args.file.now) in
    record {
      from = omega arith;
      to = omega arith;
      last = c.customs.invariant.last;
      walk = walk_next _ _ _ _ _ (c.customs.row, c.custom-custom.result) _ _ _ _ _ _ c.customs.invariant.walk
          (run_step raw.customs c.customs.row c.customs_of-run.result.end c.custom-custom.result c.custom-custom.ensures.row c.customs-test.true)
          c.in_ok-put_custom.ensures (omega arith);
      later = omega arith;
    }

pub returns-in_err-put_custom-clause-cost : goal.returns-in_err-put_custom-clause-cost
returns-in_err-put_custom-clause-cost g c =
    let raw = raw_of (tables_of c.args.file.now) in
    let many = customs_many raw c.args.parent c.customs_of-run.result c.customs_of-run.ensures.all in
    let h = walk_cut _ _ _ _ _ (c.customs.row, c.custom-custom.result) _ _ _ _ c.custom-custom.new.steps c.customs.invariant.walk
    (run_step raw.customs c.customs.row c.customs_of-run.result.end c.custom-custom.result c.custom-custom.ensures.row c.customs-test.true) (omega arith) in
    omega (arith, many, h)

pub returns-clause-ok : goal.returns-clause-ok
returns-clause-ok g c =
    let raw = raw_of (tables_of c.args.file.now) in
    customs_all c.args.printer.form raw c.args.parent c.customs_of-run.result c.args.text.now _ c.customs_of-run.ensures.all
    (walk_done _ _ _ _ _ _ _ _ c.customs.invariant.walk (run_done _ c.customs.row c.customs_of-run.result.end (omega arith)))

pub returns-clause-cost : goal.returns-clause-cost
returns-clause-cost g c =
    let raw = raw_of (tables_of c.args.file.now) in
    let many = customs_many raw c.args.parent c.customs_of-run.result c.customs_of-run.ensures.all in
    let h = walk_cost _ _ _ _ _ _ _ _ c.customs.invariant.walk in
    omega (arith, many, h)
