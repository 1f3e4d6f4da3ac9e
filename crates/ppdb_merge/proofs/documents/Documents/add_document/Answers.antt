use Rattle.std.{proofs.Common.{sym, ap, subst, ◌∙◌, ◌≡◌, cond, Some, true, false}, specs.Prelude.{is_some, bytes_eq}}
use Rattle.std.specs.BTreeMap as tree
use Rattle.std.specs.{Cmp.Lexicographic.{slice_cmp}, Ordering.{nat_cmp}}
use Rattle.ppdb_merge.{specs.declared.documents.Documents.{Documents}, specs.declared.documents.Standing.{Standing}, proofs.Names.{kept_document, added_document}}
use Rattle.ppdb_merge.proofs.Names.{inserted_document}
use Rattle.ppdb_merge.proofs.documents.Documents.add_document.Goals as goal

pub returns-then-contains_key : goal.returns-then-contains_key
returns-then-contains_key c = λ all holds.
    kept_document all c.args.self.now c.args.document.now holds
    (subst (λ q. is_some (tree.get_by (λ key. slice_cmp nat_cmp q key.items) c.args.self.now.by_name) ≡ true) c.as_slice.ensures
    (sym c.contains_key.ensures ∙ c.if-contains_key.true))

pub returns : goal.returns
returns c = λ all holds.
    let old : Documents = c.args.self.now in
    let after : Documents = record { alloc = old.alloc; rows = c.in-Some.row; by_name = c.insert.new.self } in
    let name : c.in_ok-name.name.items ≡ c.args.document.now.name = c.in_ok-name.ensures.items ∙ c.as_slice-2.ensures in
    let stands : Standing = record { row = c.in-Some.row; document = c.in_ok-document.document } in
    added_document all old after c.args.document.now holds
    (subst (λ q. is_some (tree.get_by (λ key. slice_cmp nat_cmp q key.items) old.by_name) ≡ false) c.as_slice.ensures
    (sym c.contains_key.ensures ∙ c.if-contains_key.false))
    (let next = c.in-Some.ensures in next.1)
    (λ q. inserted_document old after c.in_ok-name.name stands c.in_ok-insert.ensures.entries q
    ∙ ap (λ n. cond (bytes_eq n q) (Some stands) (tree.get_by (λ key. slice_cmp nat_cmp q key.items) old.by_name)) name
    ∙ ap (λ d. cond (bytes_eq c.args.document.now.name q) (Some (record { row = c.in-Some.row; document = d }))
    (tree.get_by (λ key. slice_cmp nat_cmp q key.items) old.by_name)) c.in_ok-document.ensures)
