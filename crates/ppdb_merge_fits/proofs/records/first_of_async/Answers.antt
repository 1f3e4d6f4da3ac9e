use Rattle.std.{proofs.Common.{ℕ, sym, ◌∙◌, ap, flat_map, slice_get}, specs.Prelude.{Option}}
use Rattle.ppdb_merge_fits.{specs.Offsets.{handler_offsets, step_offsets}, proofs.First.{first_then}}
use Rattle.ppdb_merge_fits.proofs.records.first_of_async.Goals as goal

pub returns : goal.returns
returns g c =
    let tells = g.Q.AsksOffset.tells c.args.question.now in
    let none = ap (λ (h : Option ℕ). slice_get (flat_map tells (handler_offsets c.args.method h)) 0) (sym c.handler.ensures)
    ∙ sym c.first_of_handler.ensures ∙ c.in_default.is in
    c.first_of_steps.ensures ∙ sym (first_then tells (handler_offsets c.args.method c.args.cursor.handler) (step_offsets c.args.method)
    c.args.cursor.left.items none)
