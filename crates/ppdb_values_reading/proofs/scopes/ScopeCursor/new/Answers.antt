use Rattle.ppdb_verify.specs.Views.{raw_file}
use Rattle.ppdb_values_reading.proofs.Walked.{new_cost}
use Rattle.ppdb_values_reading.proofs.scopes.ScopeCursor.new.Goals as goal

pub returns-clause-cost : goal.returns-clause-cost
returns-clause-cost g c =
    rw c.copy_of.ensures (new_cost (raw_file c.args.file.now).tables c.cells_at-cells.new.steps c.args.steps.now c.cells_at-cells.ensures.cost)
