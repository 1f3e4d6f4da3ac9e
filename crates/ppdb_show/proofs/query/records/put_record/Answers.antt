use Rattle.std.proofs.Common.{sym, ◌∙◌}
use Rattle.ppdb_tables.specs.RawOf.{raw_of}
use Rattle.ppdb_verify.specs.Views.{tables_of}
use Rattle.ppdb_show.proofs.OfKind.{hoisted_put}
use Rattle.ppdb_show.proofs.query.records.put_record.Goals as goal

pub put_async-requires-clause-kind : goal.put_async-requires-clause-kind
put_async-requires-clause-kind c = sym c.kind.ensures ∙ c.in-Async.is

pub returns-in-Hoisted : goal.returns-in-Hoisted
returns-in-Hoisted c =
    hoisted_put c.args.printer.form (raw_of (tables_of c.args.file.now)) c.args.row c.args.record.now c.kind.result c.args.text.now c.kind.ensures c.in-Hoisted.is
