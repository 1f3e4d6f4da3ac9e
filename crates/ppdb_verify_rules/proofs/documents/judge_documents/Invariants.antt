use Rattle.ppdb_tables.specs.RawOf.{raw_of}
use Rattle.ppdb_verify_rules.specs.{Judged.{ToRow}, SeenNames.{AreNames}}
use Rattle.ppdb_verify_rules.proofs.documents.judge_documents.Given as goal

abbrev pub invariant-loop-row : goal.invariant-loop-row
invariant-loop-row g l = record {
  judged : ToRow (raw_of l.tables) 0x30 l.row;
  seen : AreNames (raw_of l.tables).blobs (raw_of l.tables).documents l.row l.seen l.longest;
}
