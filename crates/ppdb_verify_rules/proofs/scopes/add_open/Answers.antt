use Rattle.ppdb_tables.specs.RawOf.{raw_of}
use Rattle.ppdb_verify_rules.proofs.Nesting.{after_row}
use Rattle.ppdb_verify_rules.proofs.scopes.add_open.Goals as goal

pub returns : goal.returns
returns c = λ b again. rw (c.in_ok-push.ensures.items, c.end_of.ensures)
    (after_row (raw_of c.args.tables.now) c.args.row c.args.scope.now b c.args.ends.now.items c.requires.there c.requires.judged c.requires.opened again)
