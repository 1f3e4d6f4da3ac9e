use Rattle.std.{proofs.Common.{sym, ap, ◌∙◌, cond, None, Some}, specs.Option.{option_copied}}
use Rattle.ppdb_base.specs.declared.merge_error.MergeError.TheVariants.{DocumentConflict}
use Rattle.ppdb_maps.specs.Map.{moved_name}
use Rattle.ppdb_merge_moved.specs.Moved.{moved_document}
use Rattle.ppdb_merge.proofs.Names.{none_standing, some_standing}
use Rattle.ppdb_merge.proofs.documents.Documents.conflict.Goals as goal

pub returns-in_err-standing : goal.returns-in_err-standing
returns-in_err-standing c = λ all holds.
    c.from_residual.ensures
    ∙ sym (none_standing all c.args.self.now c.args.row (moved_document c.args.map.now c.args.document.now) c.moved_name.result.now holds
    (c.moved_name.ensures ∙ ap (moved_name c.args.map.now) c.as_slice.ensures)
    (sym c.get.ensures.value ∙ ap option_copied c.in_err-standing.was))

pub returns-then-same_contents : goal.returns-then-same_contents
returns-then-same_contents c = λ all holds.
    sym (some_standing all c.args.self.now c.args.row (moved_document c.args.map.now c.args.document.now) c.moved_name.result.now
    c.in_ok-standing.standing.now holds (c.moved_name.ensures ∙ ap (moved_name c.args.map.now) c.as_slice.ensures)
    (sym c.get.ensures.value ∙ ap option_copied c.in_ok-standing.was)
    ∙ ap (λ b. cond b None (Some (DocumentConflict c.args.row c.in_ok-standing.standing.now.row))) (sym c.same_contents.ensures ∙ c.if-same_contents.true))

pub returns : goal.returns
returns c = λ all holds.
    sym (some_standing all c.args.self.now c.args.row (moved_document c.args.map.now c.args.document.now) c.moved_name.result.now
    c.in_ok-standing.standing.now holds (c.moved_name.ensures ∙ ap (moved_name c.args.map.now) c.as_slice.ensures)
    (sym c.get.ensures.value ∙ ap option_copied c.in_ok-standing.was)
    ∙ ap (λ b. cond b None (Some (DocumentConflict c.args.row c.in_ok-standing.standing.now.row))) (sym c.same_contents.ensures ∙ c.if-same_contents.false))
