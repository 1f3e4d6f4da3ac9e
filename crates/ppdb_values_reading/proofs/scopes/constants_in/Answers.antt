use Rattle.std.proofs.Common.{arith}
use Rattle.ppdb_verify.specs.Views.{raw_file}
use Rattle.ppdb_values_reading.{specs.Lent.{constants_of}, proofs.Lists.{slice_more}}
use Rattle.ppdb_values_reading.proofs.scopes.constants_in.Goals as goal

pub rows-preserved : goal.rows-preserved
rows-preserved g c =
    record {
      from = omega arith;
      to = omega arith;
      made = slice_more (constants_of (raw_file c.args.file.now).tables) c.rows.constants c.push.new.self c.args.list.first c.rows.row
          c.in_ok-constant_value.field-0 c.requires.first c.rows.invariant.from c.in_ok-constant_value.ensures.constant c.rows.invariant.made
          c.in_ok-push.ensures.ok;
      cost = omega arith;
    }
