use Rattle.std.proofs.Common.{sym}
use Rattle.ppdb_tables.specs.RawOf.{raw_of}
use Rattle.ppdb_verify.specs.Views.{tables_of}
use Rattle.ppdb_queries.proofs.Keys.{key_at}
use Rattle.ppdb_queries.proofs.run.ByParentKeyedRows.key.Goals as goal

pub returns-clause-key : goal.returns-clause-key
returns-clause-key g c =
    sym (key_at (λ custom. custom.parent) (raw_of (tables_of c.args.self.now.file.now)).customs c.args.row c.custom.result c.custom.ensures.row)
