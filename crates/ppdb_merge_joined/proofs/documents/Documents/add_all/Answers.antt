use Rattle.std.proofs.{Common.{◌∷◌, [], ◌++◌, map, ap, subst, ◌∙◌, arith, append_assoc}, lemmas.List.{length-append}}
use Rattle.ppdb_values.specs.declared.{file.DocumentValue.{DocumentValue}, annotation.Annotation.{Annotation}}
use Rattle.ppdb_merge_joined.{specs.Gathered.{Holds, row_after}, proofs.Gathering.{rows_push}, proofs.PutFiles.{named_behind, own_named}}
use Rattle.ppdb_merge_joined.proofs.documents.Documents.add_all.Goals as goal

pub loop-document-preserved : goal.loop-document-preserved
loop-document-preserved c =
    let old = c.loop-document.yielded in
    let d : Annotation DocumentValue = c.in-Some.document in
    record {
      gathered = λ before holds. subst (λ l. Holds l c.add.new.self) (append_assoc before old (d ∷ []))
          (c.in_ok-add.ensures.gathered (before ++ old) (c.loop-document.invariant.gathered before holds));
      rows = λ before holds.
          rows_push (before ++ old) old d c.loop-document.rows c.push.new.self c.in_ok-add.field-0 (named_behind before old old (own_named old))
          (c.loop-document.invariant.rows before holds)
          (c.in_ok-add.ensures.row (before ++ old) (c.loop-document.invariant.gathered before holds)) c.in_ok-push.ensures.ok
          ∙ ap (λ l. map (λ (e : Annotation DocumentValue). row_after l e.item.name) (old ++ d ∷ [])) (append_assoc before old (d ∷ []));
      most =
          let l = length-append old (d ∷ []) in
          let a = c.in_ok-add.ensures.most in
          let b = c.loop-document.invariant.most in omega (arith, l, a, b);
    }
