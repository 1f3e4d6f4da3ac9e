use Rattle.std.proofs.Common.{refl, arith}
use Rattle.ppdb_tables.specs.RawOf.{raw_of}
use Rattle.ppdb_verify.specs.Views.{tables_of}
use Rattle.ppdb_queries.proofs.Views.{run_step}
use Rattle.ppdb_show.proofs.{Added.{walk_none, walk_next, walk_cut, walk_done, walk_cost}, Runs.{bounds, run_done}, Shown.{records_all, customs_many}}
use Rattle.ppdb_show.proofs.query.records.put_records.Goals as goal
use Rattle.ppdb_tables.specs.Parents.{coded_in}

pub records-init : goal.records-init
records-init g c =
    let raw = raw_of (tables_of c.args.file.now) in
    let b = bounds (coded_in (record { table = 0x06; row = c.args.method })) (λ custom. custom.parent) raw.customs c.customs_of-run.result refl
    c.customs_of-run.ensures.run in
    record { from = b.0; to = b.1; last = b.2; walk = walk_none _ _ _ _ _ _ _ refl (omega arith); later = omega arith }

pub records-preserved : goal.records-preserved
records-preserved g c =
    let raw = raw_of (tables_of c.args.file.now) in
    record {
      from = omega arith;
      to = omega arith;
      last = c.records.invariant.last;
      walk = walk_next _ _ _ _ _ (c.records.row, c.custom-record.result) _ _ _ _ _ _ c.records.invariant.walk
          (run_step raw.customs c.records.row c.customs_of-run.result.end c.custom-record.result c.custom-record.ensures.row c.records-test.true)
          c.in_ok-put_record.ensures (omega arith);
      later = omega arith;
    }

pub returns-in_err-put_record-clause-cost : goal.returns-in_err-put_record-clause-cost
returns-in_err-put_record-clause-cost g c =
    let raw = raw_of (tables_of c.args.file.now) in
    let many = customs_many raw (record { table = 0x06; row = c.args.method }) c.customs_of-run.result c.customs_of-run.ensures.all in
    let h = walk_cut _ _ _ _ _ (c.records.row, c.custom-record.result) _ _ _ _ c.custom-record.new.steps c.records.invariant.walk
    (run_step raw.customs c.records.row c.customs_of-run.result.end c.custom-record.result c.custom-record.ensures.row c.records-test.true) (omega arith) in
    omega (arith, many, h)

pub returns-clause-ok : goal.returns-clause-ok
returns-clause-ok g c =
    let raw = raw_of (tables_of c.args.file.now) in
    records_all c.args.printer.form raw c.args.method c.customs_of-run.result c.args.text.now _ c.customs_of-run.ensures.all
    (walk_done _ _ _ _ _ _ _ _ c.records.invariant.walk (run_done _ c.records.row c.customs_of-run.result.end (omega arith)))

pub returns-clause-cost : goal.returns-clause-cost
returns-clause-cost g c =
    let raw = raw_of (tables_of c.args.file.now) in
    let many = customs_many raw (record { table = 0x06; row = c.args.method }) c.customs_of-run.result c.customs_of-run.ensures.all in
    let h = walk_cost _ _ _ _ _ _ _ _ c.records.invariant.walk in
    omega (arith, many, h)
