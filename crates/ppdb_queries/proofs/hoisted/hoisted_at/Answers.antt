use Rattle.std.proofs.{Common.{arith, map, ap, length, ◌∙◌}, lemmas.List.{length-map}}
use Rattle.ppdb_tables.specs.RawOf.{raw_of}
use Rattle.ppdb_verify.specs.Views.{tables_of}
use Rattle.ppdb_queries.proofs.{Filters.{forward}, Slots.{hoisted_all}, Views.{rows_many}}
use Rattle.ppdb_queries.proofs.hoisted.hoisted_at.Goals as goal

pub invariant_of-result : goal.invariant_of-result
invariant_of-result g c =
    let run = c.customs_of-run.ensures.run in
    let customs = (raw_of (tables_of c.args.file.now)).customs in
    let len = length-map customs (λ custom. custom.parent) in
    let to = run.end.to in
    rw c.copy_of.ensures (
      run.first.from,
      forward (map (λ custom. custom.parent) customs) _ c.customs_of-run.result.first c.customs_of-run.result.end run.first run.end,
      omega (arith, to, len),
    )

pub returns-clause-hoisted : goal.returns-clause-hoisted
returns-clause-hoisted g c =
    rw c.copy_of.ensures (hoisted_all (raw_of (tables_of c.args.file.now)) c.args.method c.args.offset c.none.result c.customs_of-run.result c.none.ensures
    c.customs_of-run.ensures.all)

pub returns-clause-rows : goal.returns-clause-rows
returns-clause-rows g c =
    rows_many (λ custom. custom.parent) _ (raw_of (tables_of c.args.file.now)).customs c.customs_of-run.result c.customs_of-run.ensures.run
    ∙ ap length c.customs_of-run.ensures.all
