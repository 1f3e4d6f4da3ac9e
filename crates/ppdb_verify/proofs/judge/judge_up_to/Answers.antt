use Rattle.std.proofs.Common.{◌+◌, [], ◌∷◌, inl, inr, refl, arith}
use Rattle.ppdb_base.{specs.Place.{numbers}, proofs.Judging.{comes_before_trans}}
use Rattle.ppdb_tables.specs.RawOf.{raw_of}
use Rattle.ppdb_verify_total.proofs.Placed.{span_place}
use Rattle.ppdb_verify.proofs.judge.judge_up_to.Goals as goal

pub judge_rows_to-requires-clause-table : goal.judge_rows_to-requires-clause-table
judge_rows_to-requires-clause-table g c =
    let at = span_place (raw_of c.args.tables.now) c.shape.ensures c.args.over.now.code c.args.over.now.place c.requires.invalid in (at.from, at.to)

pub judge_rows_to-requires-clause-within : goal.judge_rows_to-requires-clause-within
judge_rows_to-requires-clause-within g c =
    let at = span_place (raw_of c.args.tables.now) c.shape.ensures c.args.over.now.code c.args.over.now.place c.requires.invalid in at.within

pub returns-clause-ok : goal.returns-clause-ok
returns-clause-ok g c code at invalid early =
    let over = span_place (raw_of c.args.tables.now) c.shape.ensures c.args.over.now.code c.args.over.now.place c.requires.invalid in
    c.in_ok-judge_rows_to.ensures.ok code at invalid
    (comes_before_trans (numbers code at) (numbers c.args.over.now.code c.args.over.now.place)
    (5 ∷ c.args.over.now.place.table ∷ (c.args.over.now.place.row + 1) ∷ []) early
    (inr (over.part, inr (refl, inl (omega arith)))))
