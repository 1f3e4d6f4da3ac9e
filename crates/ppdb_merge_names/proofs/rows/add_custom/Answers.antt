use Rattle.std.proofs.Common.{sym, ◌∙◌, ap}
use Rattle.ppdb_verify.specs.Views.{raw_file}
use Rattle.ppdb_merge_names.{specs.Imaging.{Imaging}, specs.References.{of_parent, leaves_types, of_custom}, proofs.Going.{goes-as, goes-none}}
use Rattle.ppdb_merge_names.proofs.RowNames.{custom_dropped, custom_leaves, custom_names}
use Rattle.ppdb_merge_names.proofs.rows.add_custom.Goals as goal

pub returns-then-not-is_live_parent : goal.returns-then-not-is_live_parent
returns-then-not-is_live_parent c =
    let s = c.args.imager.now in
    let raw = (raw_file c.args.file.now).tables in
    rw c.is_live_parent.ensures.same
    (goes-none s (of_custom s.map raw (c.args.row, c.args.cells.now))
    (custom_dropped s.map raw c.args.row c.args.cells.now c.in-Some.parent c.in-Some.ensures
    (sym c.is_live_parent.ensures.live ∙ c.if-not-is_live_parent.true)))

pub returns-then-leaves_types : goal.returns-then-leaves_types
returns-then-leaves_types c =
    let s = c.args.imager.now in
    let raw = (raw_file c.args.file.now).tables in
    let leaves = ap (λ (t : Imaging). leaves_types t.map raw c.args.cells.now c.in-Some.parent) (sym c.is_live_parent.ensures.same)
    ∙ sym c.leaves_types.ensures.leaves ∙ c.if-leaves_types.true in
    rw (c.leaves_types.ensures.same, c.is_live_parent.ensures.same)
    (goes-none s (of_custom s.map raw (c.args.row, c.args.cells.now))
    (custom_leaves s.map raw c.args.row c.args.cells.now c.in-Some.parent c.in-Some.ensures
    (sym c.is_live_parent.ensures.live ∙ c.if-not-is_live_parent.false) leaves))

pub returns : goal.returns
returns c =
    let s = c.args.imager.now in
    let raw = (raw_file c.args.file.now).tables in
    let stays = ap (λ (t : Imaging). leaves_types t.map raw c.args.cells.now c.in-Some.parent) (sym c.is_live_parent.ensures.same)
    ∙ sym c.leaves_types.ensures.leaves ∙ c.if-leaves_types.false in
    goes-as s c.add_parent.new.imager (of_parent raw (c.args.row, c.args.cells.now) c.in-Some.parent)
    (of_custom s.map raw (c.args.row, c.args.cells.now)) c.add_parent.result
    (custom_names s.map raw c.args.row c.args.cells.now c.in-Some.parent c.in-Some.ensures
    (sym c.is_live_parent.ensures.live ∙ c.if-not-is_live_parent.false) stays)
    (rw (c.leaves_types.ensures.same, c.is_live_parent.ensures.same) at c.add_parent.ensures)
