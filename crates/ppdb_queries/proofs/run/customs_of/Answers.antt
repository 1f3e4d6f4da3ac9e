use Rattle.std.proofs.Common.{sym, ◌∙◌, arith}
use Rattle.ppdb_tables.specs.RawOf.{raw_of}
use Rattle.ppdb_verify.specs.Views.{tables_of}
use Rattle.ppdb_queries.proofs.Parents.{run_at, code_small}
use Rattle.ppdb_queries.proofs.run.customs_of.Goals as goal

pub customs_of_code-requires : goal.customs_of_code-requires
customs_of_code-requires g c =
    code_small c.codes_are_parents.ensures c.args.parent c.unwrap-coded.result (sym c.coded_parent.ensures ∙ c.unwrap-coded.ensures)
    (let few = c.facts.ensures.rules.shape.small c.args.parent.table in let there = c.requires.there.1 in omega (arith, few, there))

pub returns-clause-all : goal.returns-clause-all
returns-clause-all g c =
    run_at (raw_of (tables_of c.args.file.now)) c.codes_are_parents.ensures c.args.parent c.unwrap-coded.result c.customs_of_code.result
    (sym c.coded_parent.ensures ∙ c.unwrap-coded.ensures) c.facts.ensures.rules.customs c.customs_of_code.ensures.run
