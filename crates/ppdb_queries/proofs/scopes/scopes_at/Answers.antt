use Rattle.std.proofs.{Common.{arith, map}, lemmas.List.{length-map}}
use Rattle.ppdb_tables.specs.RawOf.{raw_of}
use Rattle.ppdb_verify.specs.Views.{tables_of}
use Rattle.ppdb_queries.proofs.{Filters.{forward}, Views.{all_views, all_rows}}
use Rattle.ppdb_queries.proofs.scopes.scopes_at.Goals as goal

pub invariant_of-result : goal.invariant_of-result
invariant_of-result g c =
    let run = c.in_ok-run.ensures.run in
    let scopes = (raw_of (tables_of c.args.file.now)).scopes in
    let len = length-map scopes (λ scope. scope.method) in
    let to = run.end.to in
    rw c.copy_of.ensures (
      run.first.from,
      forward (map (λ scope. scope.method) scopes) c.args.method c.in_ok-run.run'.first c.in_ok-run.run'.end run.first run.end,
      omega (arith, to, len),
    )

pub returns-clause-scopes : goal.returns-clause-scopes
returns-clause-scopes g c =
    rw c.copy_of.ensures (all_views (raw_of (tables_of c.args.file.now)) c.args.method c.args.offset c.in_ok-run.run' c.in_ok-run.ensures.run)

pub returns-clause-rows : goal.returns-clause-rows
returns-clause-rows g c = all_rows (raw_of (tables_of c.args.file.now)) c.args.method c.in_ok-run.run' c.in_ok-run.ensures.run
