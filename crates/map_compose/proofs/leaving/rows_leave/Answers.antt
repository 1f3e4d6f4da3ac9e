use Rattle.std.{proofs.Common.{arith, ap, length, sym, ◌∙◌}, specs.List.{list_any}}
use Rattle.ppdb_maps_text.specs.MapTexts.{olds_of}
use Rattle.map_compose.{specs.Composed.{composed_image}, specs.Leaving.{leaves}, proofs.Crossing.{sources_are, any_next, any_this}}
use Rattle.map_compose.proofs.leaving.rows_leave.Goals as goal

pub rows-init : goal.rows-init
rows-init c =
    ap (list_any (λ o. leaves c.args.table (composed_image c.args.first.now c.args.second.now c.args.table o)))
    (sources_are c.args.first.now c.args.second.now c.args.table c.requires ∙ sym (ap (λ m. olds_of m c.args.table) c.source-lines.ensures))

pub rows-smaller : goal.rows-smaller
rows-smaller c = let e = ap length c.in-Some.ensures in omega (arith, e)

pub rows-preserved : goal.rows-preserved
rows-preserved c =
    c.rows.invariant ∙ ap (list_any (λ o. leaves c.args.table (composed_image c.args.first.now c.args.second.now c.args.table o))) c.in-Some.ensures
    ∙ any_next (λ o. leaves c.args.table (composed_image c.args.first.now c.args.second.now c.args.table o)) c.in-Some.old _
    (ap (leaves c.args.table) (sym c.image_by_both-image.ensures) ∙ sym c.leaves-away.ensures ∙ c.if-away.false)

pub returns-then-away : goal.returns-then-away
returns-then-away c =
    sym (c.rows.invariant ∙ ap (list_any (λ o. leaves c.args.table (composed_image c.args.first.now c.args.second.now c.args.table o))) c.in-Some.ensures
    ∙ any_this (λ o. leaves c.args.table (composed_image c.args.first.now c.args.second.now c.args.table o)) c.in-Some.old _
    (ap (leaves c.args.table) (sym c.image_by_both-image.ensures) ∙ sym c.leaves-away.ensures ∙ c.if-away.true))

pub returns : goal.returns
returns c = sym (c.rows.invariant ∙ ap (list_any (λ o. leaves c.args.table (composed_image c.args.first.now c.args.second.now c.args.table o))) c.in_default.ensures)
