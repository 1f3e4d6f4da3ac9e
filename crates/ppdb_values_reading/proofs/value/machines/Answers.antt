use Rattle.std.proofs.Common.{arith}
use Rattle.ppdb_verify.specs.Views.{raw_file}
use Rattle.ppdb_values_reading.proofs.Rows.{made_more}
use Rattle.ppdb_values_reading.proofs.value.machines.Goals as goal

pub rows-preserved : goal.rows-preserved
rows-preserved g c =
    record {
      from = omega arith;
      to = omega arith;
      made = made_more (raw_file c.args.file.now).tables.machines c.rows.machines c.push.new.self c.rows.row c.machine.result c.machine.ensures.row
          c.rows.invariant.made c.in_ok-push.ensures.ok;
      cost = omega arith;
    }
