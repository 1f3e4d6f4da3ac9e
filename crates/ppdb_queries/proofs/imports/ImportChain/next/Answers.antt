use Rattle.std.proofs.Common.{sym, ◌∙◌, arith}
use Rattle.ppdb_tables.specs.RawOf.{raw_of}
use Rattle.ppdb_verify.specs.Views.{tables_of}
use Rattle.ppdb_queries.{specs.Chains.{links_from}, proofs.Chained.{links_zero, links_next, answer_none, left_none, answer_some, left_some, cost_some}}
use Rattle.ppdb_queries.proofs.imports.ImportChain.next.Goals as goal

pub returns-then-self-eq0-clause-answer : goal.returns-then-self-eq0-clause-answer
returns-then-self-eq0-clause-answer g c =
    answer_none _ (sym c.self.view_is ∙ links_zero (raw_of (tables_of c.self.inside.file)) c.self.inside.row c.if-self-eq0.true)

pub returns-then-self-eq0-clause-left : goal.returns-then-self-eq0-clause-left
returns-then-self-eq0-clause-left g c =
    left_none _ (sym c.self.view_is ∙ links_zero (raw_of (tables_of c.self.inside.file)) c.self.inside.row c.if-self-eq0.true)

pub returns-clause-answer : goal.returns-clause-answer
returns-clause-answer g c =
    let raw = raw_of (tables_of c.self.inside.file) in
    answer_some c.args.self.now (links_from raw c.import-scope.result.parent) _ (sym c.self.view_is
    ∙ links_next raw c.self.inside.row c.import-scope.result c.imports_of.result c.facts.ensures.rules.imports
    (let shape = c.facts.ensures.rules.shape.imports in omega (arith, shape)) c.import-scope.ensures.row c.imports_of.ensures)

pub returns-clause-left : goal.returns-clause-left
returns-clause-left g c =
    let raw = raw_of (tables_of c.self.inside.file) in
    left_some c.args.self.now (links_from raw c.import-scope.result.parent) _ (sym c.self.view_is
    ∙ links_next raw c.self.inside.row c.import-scope.result c.imports_of.result c.facts.ensures.rules.imports
    (let shape = c.facts.ensures.rules.shape.imports in omega (arith, shape)) c.import-scope.ensures.row c.imports_of.ensures)

pub returns-clause-cost : goal.returns-clause-cost
returns-clause-cost g c =
    let raw = raw_of (tables_of c.self.inside.file) in
    cost_some c.args.self.now (links_from raw c.import-scope.result.parent) _ c.args.steps.now c.import-scope.new.steps (sym c.self.view_is
    ∙ links_next raw c.self.inside.row c.import-scope.result c.imports_of.result c.facts.ensures.rules.imports
    (let shape = c.facts.ensures.rules.shape.imports in omega (arith, shape)) c.import-scope.ensures.row c.imports_of.ensures) c.import-scope.ensures.step
