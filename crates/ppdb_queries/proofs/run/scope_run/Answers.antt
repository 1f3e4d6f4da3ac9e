use Rattle.ppdb_tables.specs.RawOf.{raw_of}
use Rattle.ppdb_verify.specs.Views.{tables_of}
use Rattle.ppdb_queries.proofs.Filters.{run_of}
use Rattle.ppdb_queries.proofs.run.scope_run.Goals as goal

pub returns-clause-run : goal.returns-clause-run
returns-clause-run g c =
    run_of (λ scope. scope.method) c.args.method (raw_of (tables_of c.args.file.now)).scopes c.rows_with-run.result.first c.rows_with-run.result.end
    c.rows_with-run.ensures.first c.rows_with-run.ensures.end
