use Rattle.std.{proofs.Common.{ℕ, length, List, refl, ap, ◌∙◌}, specs.List.{sum_by}}
use Rattle.ppdb_values.specs.declared.{scope.ScopeValue.{ScopeValue}, annotation.Custom.{Custom}}
use Rattle.ppdb_merge_moved.{specs.OnRows.{in_lists, annotated_by, annotated_scopes_by}, proofs.FileAtRows.{file_is, counts_same}}
use Rattle.ppdb_merge_moved.proofs.annotating.annotated_file.Goals as goal

abbrev Lists : Type 0
Lists = List (List Custom)

pub returns : goal.returns
returns c =
    let v = c.args.value in
    let lv : ScopeValue → ℕ = λ (s : ScopeValue). length s.variables in
    let lc : ScopeValue → ℕ = λ (s : ScopeValue). length s.constants in
    file_is v c.place_all.new.self c.in_ok-documents.documents c.in_ok-scopes.scopes c.in_ok-imports.imports _
    (c.in_ok-place_all.ensures (length v.documents) (length v.scopes) (sum_by lv v.scopes) (sum_by lc v.scopes) (length v.imports)
    (counts_same c.in_ok-rows.rows c.len.result c.len-2.result c.in_ok-variables_of.field-0 c.in_ok-constants_of.field-0 c.len-3.result (length v.documents)
    (length v.scopes) (sum_by lv v.scopes) (sum_by lc v.scopes) (length v.imports)
    c.in_ok-rows.ensures c.len.ensures c.len-2.ensures (c.in_ok-variables_of.ensures ∙ ap (sum_by lv) c.as_slice.ensures)
    (c.in_ok-constants_of.ensures ∙ ap (sum_by lc) c.as_slice-2.ensures) c.len-3.ensures))
    (c.in_ok-documents.ensures.annotated ∙ ap (λ (ls : Lists). annotated_by (in_lists ls) 1 v.documents) c.as_mut_slice-4.ensures.value)
    (c.in_ok-scopes.ensures
    ∙ ap (λ (ls : Lists). annotated_scopes_by (in_lists ls) (in_lists c.as_mut_slice-2.result.now)
    (in_lists c.as_mut_slice-3.result.now) 1 1 1 v.scopes) c.as_mut_slice.ensures.value
    ∙ ap (λ (ls : Lists). annotated_scopes_by (in_lists c.place_all.new.self.scopes.items) (in_lists ls)
    (in_lists c.as_mut_slice-3.result.now) 1 1 1 v.scopes) c.as_mut_slice-2.ensures.value
    ∙ ap (λ (ls : Lists). annotated_scopes_by (in_lists c.place_all.new.self.scopes.items) (in_lists c.place_all.new.self.variables.items)
    (in_lists ls) 1 1 1 v.scopes) c.as_mut_slice-3.ensures.value)
    (c.in_ok-imports.ensures.annotated ∙ ap (λ (ls : Lists). annotated_by (in_lists ls) 1 v.imports) c.as_mut_slice-5.ensures.value) refl
