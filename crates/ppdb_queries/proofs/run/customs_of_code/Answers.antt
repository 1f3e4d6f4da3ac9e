use Rattle.ppdb_tables.specs.RawOf.{raw_of}
use Rattle.ppdb_verify.specs.Views.{tables_of}
use Rattle.ppdb_queries.proofs.Filters.{run_of}
use Rattle.ppdb_queries.proofs.run.customs_of_code.Goals as goal

pub returns-clause-run : goal.returns-clause-run
returns-clause-run g c =
    run_of (λ custom. custom.parent) c.args.coded (raw_of (tables_of c.args.file.now)).customs c.rows_with.result.first c.rows_with.result.end
    c.rows_with.ensures.first c.rows_with.ensures.end
