use Rattle.std.proofs.Common.{sym}
use Rattle.ppdb_tables.specs.RawOf.{raw_of}
use Rattle.ppdb_verify_rules.proofs.Nesting.{innermost_decides}
use Rattle.ppdb_verify_rules.proofs.scopes.crosses_earlier.Goals as goal

pub returns-in-Some : goal.returns-in-Some
returns-in-Some c =
    rw c.end_of.ensures (innermost_decides (raw_of c.args.tables.now) c.args.row c.args.scope.now c.args.ends.now.items c.in-Some.end.now
    c.requires.there c.requires.judged c.requires.opened (rw c.deref.ensures.value at (sym c.in-Some.ensures.value)))
