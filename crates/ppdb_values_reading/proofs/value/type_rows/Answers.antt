use Rattle.std.proofs.Common.{refl}
use Rattle.ppdb_verify.specs.Views.{raw_file}
use Rattle.ppdb_values_reading.proofs.Counts.{zeros_filled, filled, filled_more}
use Rattle.ppdb_values_reading.proofs.value.type_rows.Goals as goal

pub tables-init : goal.tables-init
tables-init c = zeros_filled (raw_file c.args.file.now).tables.counts

pub tables-preserved : goal.tables-preserved
tables-preserved c =
    filled_more (raw_file c.args.file.now).tables.counts c.tables.rows _ c.tables.table c.count.result (c.tables-test.true) c.tables.invariant refl
    c.count.ensures.rows

pub returns : goal.returns
returns c = filled (raw_file c.args.file.now).tables.counts c.tables.rows c.tables.table c.facts.ensures.rules.shape.entries c.tables-test.false
    c.tables.invariant
