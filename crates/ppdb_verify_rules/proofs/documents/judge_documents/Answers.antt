use Rattle.ppdb_tables.specs.RawOf.{raw_of}
use Rattle.std.proofs.Common.{◌≡◌, ℕ, subst, arith}
use Rattle.ppdb_verify_rules.{specs.Judged.{ToRow}, specs.SeenNames.{AreNames}, proofs.DocumentFaults.{first_row}, proofs.NameSets.{names_at_first}}
use Rattle.ppdb_verify_rules.proofs.documents.judge_documents.Goals as goal

pub returns-then-last-eq0-clause-ok : goal.returns-then-last-eq0-clause-ok
returns-then-last-eq0-clause-ok g c =
    subst (λ (n : ℕ). ToRow (raw_of c.args.tables.now) 0x30 n) (omega (arith, c.if-last-eq0.true)) (first_row (raw_of c.args.tables.now) c.requires.judged)

pub loop-row-init : goal.loop-row-init
loop-row-init g c = record {
  judged = first_row (raw_of c.args.tables.now) c.requires.judged;
  seen = names_at_first (raw_of c.args.tables.now).blobs (raw_of c.args.tables.now).documents c.new-seen.result 0 c.new-seen.ensures.empty;
}

pub judge_last-requires-clause-seen : goal.judge_last-requires-clause-seen
judge_last-requires-clause-seen g c =
    let at_last : c.loop-row.row ≡ c.args.last = omega (arith, c.if-last-eq0.false) in
    subst (λ (n : ℕ). AreNames (raw_of c.args.tables.now).blobs (raw_of c.args.tables.now).documents n c.loop-row.seen c.loop-row.longest) at_last
    c.loop-row.invariant.seen
