use Rattle.std.{proofs.Common.{sym, ap, ◌∙◌, ◌∷◌, List, map}, specs.Prelude.{slice_get}}
use Rattle.ppdb_merge.{specs.declared.trace.Trace.{Trace}, specs.Together.{rows_differ, images_above, misfit_of}, proofs.Told.{first_told, second_told}}
use Rattle.ppdb_merge.proofs.together.misfit.Goals as goal

pub returns-then-is_some : goal.returns-then-is_some
returns-then-is_some g c =
    let traces : List Trace = map g.T.Counted.trace (c.in-Some.first.now ∷ c.in-Some.others.now) in
    first_told c.rows_differ-told.result (rows_differ traces) (images_above traces) c.rows_differ-told.ensures (sym c.is_some.ensures ∙ c.if-is_some.true)
    ∙ ap (λ l. misfit_of (map g.T.Counted.trace l)) (sym c.in-Some.ensures.cases.0)

pub returns : goal.returns
returns g c =
    let traces : List Trace = map g.T.Counted.trace (c.in-Some.first.now ∷ c.in-Some.others.now) in
    c.images_above.ensures
    ∙ ap (λ l. slice_get (images_above (map g.T.Counted.trace l)) 0) c.in-Some.ensures.cases.0
    ∙ sym (second_told c.rows_differ-told.result (rows_differ traces) (images_above traces) c.rows_differ-told.ensures
    (sym c.is_some.ensures ∙ c.if-is_some.false))
    ∙ ap (λ l. misfit_of (map g.T.Counted.trace l)) (sym c.in-Some.ensures.cases.0)
