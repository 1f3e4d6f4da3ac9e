use Rattle.std.proofs.Common.{◌∙◌, arith}
use Rattle.ppdb_tables.specs.RawOf.{raw_of}
use Rattle.ppdb_verify.specs.Views.{tables_of}
use Rattle.ppdb_queries.proofs.Slots.{none_left, record_next}
use Rattle.ppdb_queries.proofs.hoisted.HoistedCursor.next.Goals as goal

pub records-preserved : goal.records-preserved
records-preserved g c =
    let s = c.records.self-inside in
    let raw = raw_of (tables_of s.file) in
    record {
      from = omega arith;
      forward = omega arith;
      last = c.records.invariant.last;
      same = record_next raw s.offset s.first s.end s.current c.record_slots-self-inside.result c.records.invariant.from (omega arith) c.records.invariant.last
          (none_left s.current c.next.result c.next.ensures.answer c.in_default.not-Some)
          c.record_slots-self-inside.ensures.slots
          ∙ c.records.invariant.same;
      cost = omega arith;
    }
