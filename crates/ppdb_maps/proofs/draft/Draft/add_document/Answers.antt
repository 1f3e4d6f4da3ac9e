use Rattle.std.{proofs.Common.{◌≡◌, cond, Some, true, false, sym, ap, subst, ◌∙◌}, specs.Prelude.{is_some, bytes_eq}}
use Rattle.std.specs.BTreeMap as tree
use Rattle.std.specs.{BTreeMap.{is_at}, Cmp.Lexicographic.{slice_cmp}, Map.{lookup}, Ordering.{nat_cmp}}
use Rattle.ppdb_maps.{specs.Rules.{second_document}, proofs.Refusing.{repeated, document_keeps}, proofs.Adding.{document_added}, proofs.Named.{found_after}}
use Rattle.ppdb_maps.proofs.draft.Draft.add_document.Goals as goal

pub returns-then-contains_key : goal.returns-then-contains_key
returns-then-contains_key c = λ before closed.
    repeated before _ (second_document (sym (ap is_some (closed.others.documents c.args.document.old))
    ∙ subst (λ q. is_some (tree.get_by (λ key. slice_cmp nat_cmp q key.items) c.args.self.now.documents) ≡ true)
    (c.as_slice.ensures.value ∙ c.into_vec-old.ensures) (sym c.contains_key.ensures ∙ c.if-contains_key.true)))

pub returns : goal.returns
returns c = λ before closed. (
  document_added before c.args.self.now c.insert.new.self c.args.document closed
      (λ q. ap (lookup (is_at (λ key. slice_cmp nat_cmp q key.items))) c.in_ok-insert.ensures.entries
      ∙ found_after c.args.self.now.documents.entries c.into_vec-old.result c.args.document.new q
      ∙ ap (λ n. cond (bytes_eq n q) (Some c.args.document.new) (tree.get_by (λ key. slice_cmp nat_cmp q key.items) c.args.self.now.documents))
      c.into_vec-old.ensures),
  document_keeps before c.args.document
      (sym (ap is_some (closed.others.documents c.args.document.old))
      ∙ subst (λ q. is_some (tree.get_by (λ key. slice_cmp nat_cmp q key.items) c.args.self.now.documents) ≡ false)
      (c.as_slice.ensures.value ∙ c.into_vec-old.ensures) (sym c.contains_key.ensures ∙ c.if-contains_key.false)),
)
