use Rattle.ppdb_tables.specs.RawOf.{raw_of}
use Rattle.ppdb_verify_rules.proofs.NameSets.{longer_next}
use Rattle.ppdb_verify_rules.proofs.documents.judge_last.Goals as goal

pub judge_rest-requires-clause-judged : goal.judge_rest-requires-clause-judged
judge_rest-requires-clause-judged c =
    let h = c.is_longer.ensures c.if-is_longer.true in
    longer_next (raw_of c.args.tables.now) c.args.row c.args.document.now c.args.seen.now c.args.longest.now c.requires.there c.requires.judged c.requires.seen
    h.0 h.1.0 h.1.1 h.1.2
