use Rattle.std.proofs.Common.{sym, ◌∙◌}
use Rattle.ppdb_merge_names.{specs.References.{of_scope}, proofs.Going.{goes-none}, proofs.RowNames.{scope_dropped}}
use Rattle.ppdb_merge_names.proofs.rows.add_scope.Goals as goal

pub returns-then-drops : goal.returns-then-drops
returns-then-drops c =
    let s = c.args.imager.now in
    goes-none s (of_scope s.map (c.args.row, c.args.cells.now)) (scope_dropped s.map c.args.row c.args.cells.now (sym c.drops.ensures ∙ c.if-drops.true))
