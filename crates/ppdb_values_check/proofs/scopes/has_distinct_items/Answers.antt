use Rattle.ppdb_values_check.proofs.{Joined.{items_joined, ok_last}, Listed.{refuted, says_no}}
use Rattle.ppdb_values_check.proofs.scopes.has_distinct_items.Goals as goal

pub returns-then-not-branch : goal.returns-then-not-branch
returns-then-not-branch c =
    let same = items_joined c.args.scope.now c.as_slice-variables.result.now c.as_slice-constants.result.now c.as_slice-variables.ensures
    c.as_slice-constants.ensures in
    says_no (λ distinct. refuted c.in_ok-numbers_differ.field-0 c.in_ok-numbers_differ.ensures c.if-not-branch.true (same.1 distinct).0)

pub returns-then-not-branch-2 : goal.returns-then-not-branch-2
returns-then-not-branch-2 c =
    let same = items_joined c.args.scope.now c.as_slice-variables.result.now c.as_slice-constants.result.now c.as_slice-variables.ensures
    c.as_slice-constants.ensures in
    says_no (λ distinct. refuted c.in_ok-names_differ.field-0 c.in_ok-names_differ.ensures c.if-not-branch-2.true (same.1 distinct).1.0)

pub returns : goal.returns
returns c =
    let same = items_joined c.args.scope.now c.as_slice-variables.result.now c.as_slice-constants.result.now c.as_slice-variables.ensures
    c.as_slice-constants.ensures in
    let slots = c.in_ok-numbers_differ.ensures.0 c.if-not-branch.false in
    let names = c.in_ok-names_differ.ensures.0 c.if-not-branch-2.false in
    ok_last c.names_differ-2.result slots names c.names_differ-2.ensures same
