use Rattle.std.proofs.Common.{sym, ◌∙◌}
use Rattle.ppdb_verify.specs.Views.{raw_file}
use Rattle.ppdb_merge_names.{specs.Lists.{of_scope_constants}, proofs.Going.{goes-none}, proofs.ConstantLists.{scope_dropped}}
use Rattle.ppdb_merge_names.proofs.constants.add_scope_constants.Goals as goal

pub returns-then-drops : goal.returns-then-drops
returns-then-drops g c =
    let s = c.args.imager.now in
    let raw = (raw_file c.args.file.now).tables in
    goes-none s (of_scope_constants s.map raw c.args.scope.now) (scope_dropped s.map raw c.args.scope.now (sym c.drops.ensures ∙ c.if-drops.true))
