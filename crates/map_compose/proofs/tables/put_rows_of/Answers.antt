use Rattle.std.proofs.Common.{arith, ap, length, sym, subst, ◌∙◌}
use Rattle.ppdb_maps_text.specs.MapTexts.{olds_of, image_says}
use Rattle.map_compose.{specs.Composed.{composed_image}, specs.Says.{images_say, rows_say, PutsLines}, proofs.Crossing.{sources_are}, proofs.Putting.{PutSome}}
use Rattle.map_compose.proofs.Putting.{some_none, some_next, some_all}
use Rattle.map_compose.proofs.tables.put_rows_of.Goals as goal

pub rows-init : goal.rows-init
rows-init c =
    subst (λ os. PutSome c.args.text.now c.args.text.now (rows_say c.args.first.now c.args.second.now c.args.table)
    (images_say c.args.first.now c.args.second.now c.args.table os))
    (sources_are c.args.first.now c.args.second.now c.args.table c.requires
    ∙ sym (ap (λ m. olds_of m c.args.table) c.source-lines.ensures))
    (some_none c.args.text.now (rows_say c.args.first.now c.args.second.now c.args.table))

pub rows-preserved : goal.rows-preserved
rows-preserved c =
    some_next _ _ _ _ _ _ (image_says c.args.table c.in-Some.old (composed_image c.args.first.now c.args.second.now c.args.table c.in-Some.old))
    (ap (images_say c.args.first.now c.args.second.now c.args.table) c.in-Some.ensures) c.rows.invariant
    (subst (λ i. PutsLines c.rows.text c.put_image.new.text (image_says c.args.table c.in-Some.old i)) c.image_by_both-image.ensures c.in_ok-put_image.ensures)

pub rows-smaller : goal.rows-smaller
rows-smaller c = let e = ap length c.in-Some.ensures in omega (arith, e)

pub returns : goal.returns
returns c = some_all _ _ _ _ (ap (images_say c.args.first.now c.args.second.now c.args.table) c.in_default.ensures) c.rows.invariant
