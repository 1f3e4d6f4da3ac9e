use Rattle.std.proofs.Common.{sym}
use Rattle.ppdb_tables.specs.RawOf.{raw_of}
use Rattle.ppdb_verify.specs.Views.{tables_of}
use Rattle.ppdb_queries.proofs.Keys.{key_at}
use Rattle.ppdb_queries.proofs.run.ByMethodKeyedRows.key.Goals as goal

pub returns-clause-key : goal.returns-clause-key
returns-clause-key g c = sym (key_at (λ scope. scope.method) (raw_of (tables_of c.args.self.now.file.now)).scopes c.args.row c.scope.result c.scope.ensures.row)
