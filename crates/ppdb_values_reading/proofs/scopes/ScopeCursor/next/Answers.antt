use Rattle.std.proofs.Common.{sym, ◌∙◌, ◌+◌, arith}
use Rattle.ppdb_tables.proofs.NumberedRows.{row_within}
use Rattle.ppdb_verify.specs.Views.{raw_file}
use Rattle.ppdb_values_reading.specs.Scopes.{scope_in, scopes_from}
use Rattle.ppdb_values_reading.proofs.Walked.{left_some, left_none, none_answer, none_left, some_answer, some_left, next_cost}
use Rattle.ppdb_values_reading.proofs.scopes.ScopeCursor.next.Goals as goal

pub returns-in_default-clause-answer : goal.returns-in_default-clause-answer
returns-in_default-clause-answer g c =
    let s = c.self.inside in
    none_answer c.args.self.now (sym c.self.view_is ∙ left_none (raw_file s.file).tables s.row c.self.invariant.0 (c.self.invariant.2 ∙ c.in_default.is))

pub returns-in_default-clause-left : goal.returns-in_default-clause-left
returns-in_default-clause-left g c =
    let s = c.self.inside in
    none_left c.args.self.now (sym c.self.view_is ∙ left_none (raw_file s.file).tables s.row c.self.invariant.0 (c.self.invariant.2 ∙ c.in_default.is))

pub invariant_of-self : goal.invariant_of-self
invariant_of-self g c =
    let s = c.self.inside in
    let raw = (raw_file s.file).tables in
    let within = row_within raw.scopes s.row c.in-Some.cells (c.self.invariant.2 ∙ c.in-Some.is) in
    let to = within.1 in
    (omega arith, omega (arith, to), c.cells_at-next.ensures.cells)

pub returns-clause-answer : goal.returns-clause-answer
returns-clause-answer g c =
    let s = c.self.inside in
    let raw = (raw_file s.file).tables in
    rw c.scope_at-scope.ensures
    (some_answer c.args.self.now (scopes_from raw (s.row + 1)) (scope_in raw (s.row, c.in-Some.cells))
    (sym c.self.view_is ∙ left_some raw s.row c.in-Some.cells (c.self.invariant.2 ∙ c.in-Some.is)))

pub returns-clause-left : goal.returns-clause-left
returns-clause-left g c =
    let s = c.self.inside in
    let raw = (raw_file s.file).tables in
    some_left c.args.self.now (scopes_from raw (s.row + 1)) (scope_in raw (s.row, c.in-Some.cells))
    (sym c.self.view_is ∙ left_some raw s.row c.in-Some.cells (c.self.invariant.2 ∙ c.in-Some.is))

pub returns-clause-cost : goal.returns-clause-cost
returns-clause-cost g c =
    let s = c.self.inside in
    let raw = (raw_file s.file).tables in
    let within = row_within raw.scopes s.row c.in-Some.cells (c.self.invariant.2 ∙ c.in-Some.is) in
    next_cost raw s.row c.cells_at-next.new.steps c.args.steps.now c.args.self.now within.0 within.1 (sym c.self.view_is) c.cells_at-next.ensures.cost
