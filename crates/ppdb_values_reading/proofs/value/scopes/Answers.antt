use Rattle.std.{proofs.Common.{List, arith, sym, ◌∙◌, ap, subst, All}, specs.List.{sum_by}, proofs.lemmas.List.Sums.{sum_by-cons}}
use Rattle.blob_grammar.specs.Reader.{tail}
use Rattle.ppdb_values.specs.Value.{value_of}
use Rattle.ppdb_verify.specs.Views.{raw_file}
use Rattle.ppdb_values_reading.{specs.declared.scopes.Scope.{Scope}, specs.Scopes.{scope_with, HasLists, rows_of}, proofs.Answered.{next_first, all_first, all_rest}}
use Rattle.ppdb_values_reading.proofs.Given.{made_on}
use Rattle.ppdb_values_reading.proofs.value.scopes.Goals as goal

pub scopes-init : goal.scopes-init
scopes-init g c =
    let raw = raw_file c.args.file.now in
    let own = c.scopes_own_their_lists.ensures raw c.facts.ensures.rules in
    let sum = ap (λ (scopes : List Scope). sum_by rows_of scopes) c.new-cursor.ensures.scopes ∙ own.rows in
    record {
      within = subst (λ (scopes : List Scope). All (HasLists raw.tables) scopes) (sym c.new-cursor.ensures.scopes) own.within;
      made = rw (c.in_ok-scopes.ensures.empty, c.new-cursor.ensures.scopes) own.owned;
      cost = omega (arith, sum);
    }

pub scope_value-requires : goal.scope_value-requires
scope_value-requires g c =
    let raw = raw_file c.args.file.now in
    let first = next_first c.scopes.cursor c.in-Some.scope (sym c.next.ensures.answer ∙ c.in-Some.is) in
    all_first (HasLists raw.tables) c.scopes.cursor (tail c.scopes.cursor) c.in-Some.scope first c.scopes.invariant.within

pub scopes-preserved : goal.scopes-preserved
scopes-preserved g c =
    let raw = raw_file c.args.file.now in
    let first = next_first c.scopes.cursor c.in-Some.scope (sym c.next.ensures.answer ∙ c.in-Some.is) in
    let sum = ap (λ (scopes : List Scope). sum_by rows_of scopes) first ∙ sum_by-cons rows_of c.in-Some.scope (tail c.scopes.cursor) in
    rw c.next.ensures.left (record {
      within = all_rest (HasLists raw.tables) c.scopes.cursor (tail c.scopes.cursor) c.in-Some.scope first c.scopes.invariant.within;
      made = made_on (scope_with raw.tables) c.scopes.scopes c.push.new.self (value_of raw).scopes c.in_ok-scope_value.field-0 c.scopes.cursor
          (tail c.scopes.cursor) c.in-Some.scope
          first c.in_ok-scope_value.ensures.scope c.in_ok-push.ensures.ok c.scopes.invariant.made;
      cost = omega (arith, sum, c.in_ok-scope_value.ensures.cost, rw c.next.ensures.left at c.next.ensures.cost);
    })
