use Rattle.std.proofs.Common.{sym, ◌∙◌}
use Rattle.ppdb_verify.specs.Views.{raw_file}
use Rattle.ppdb_merge_names.proofs.RowNames.{stays_there}
use Rattle.ppdb_merge_names.proofs.rows.leaves_types.Goals as goal

pub returns-then-not-leaves_table-clause-leaves : goal.returns-then-not-leaves_table-clause-leaves
returns-then-not-leaves_table-clause-leaves c =
    stays_there c.args.imager.now.map (raw_file c.args.file.now).tables c.args.cells.now c.args.parent
    (sym c.leaves_table.ensures.leaves ∙ c.if-not-leaves_table.true)
