use Rattle.std.proofs.{Common.{◌++◌, ◌∷◌, [], false, cond, get_or, refl, sym, ap, ◌∙◌, arith}, lemmas.List.{length-append}}
use Rattle.ppdb_merge_joined.{specs.Repeats.{kept_by}, proofs.Marked.{kept_none, kept_more}}
use Rattle.ppdb_merge_joined.proofs.repeats.marked.Goals as goal

pub loop-item-init : goal.loop-item-init
loop-item-init g c = record { kept = c.in_ok-kept.ensures.empty ∙ sym (kept_none c.args.marks.now); at = refl }

pub loop-item-preserved : goal.loop-item-preserved
loop-item-preserved g c =
    let old = c.loop-item.yielded in
    let marks = c.args.marks.now in
    record {
      kept =
          c.in_ok-keep.ensures ∙ ap (λ l. l ++ cond c.is_marked.result (c.in-Some.item ∷ []) []) c.loop-item.invariant.kept
          ∙ ap (λ b. kept_by marks old ++ cond b (c.in-Some.item ∷ []) []) (c.is_marked.ensures ∙ ap (λ n. get_or marks n false) c.loop-item.invariant.at)
          ∙ sym (kept_more marks old c.in-Some.item);
      at = let l = length-append old (c.in-Some.item ∷ []) in let a = c.loop-item.invariant.at in omega (arith, l, a);
    }
