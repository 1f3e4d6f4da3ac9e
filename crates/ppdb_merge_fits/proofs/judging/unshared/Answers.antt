use Rattle.std.{proofs.Common.{sym, ◌∙◌, ap, ◌++◌, ◌∷◌, [], get_or}, specs.Prelude.{not}, proofs.lemmas.List.Elements.{filter_more}}
use Rattle.ppdb_merge_names.specs.declared.imaged.Imaged.{Imaged}
use Rattle.ppdb_merge_moved.specs.Fits.{may_share}
use Rattle.ppdb_merge_fits.specs.Rows.{unshared}
use Rattle.ppdb_merge_fits.proofs.judging.unshared.Goals as goal

pub loop-row-preserved : goal.loop-row-preserved
loop-row-preserved c =
    let none : Imaged = record { table = 0; row = 0; to = 0; image = 0 } in
    c.in_ok-add_unshared.ensures
    ∙ ap (λ l. l ++ unshared c.args.map.now (get_or c.args.rows.now c.loop-row.row-index none ∷ [])) c.loop-row.invariant
    ∙ sym (filter_more (λ (i : Imaged). not (may_share c.args.map.now i.table)) c.args.rows.now c.loop-row.row-index none c.loop-row-test.true)
