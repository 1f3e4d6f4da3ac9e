use Rattle.std.proofs.Common.{refl}
use Rattle.ppdb_values_check.proofs.Listed.{all_taken, answers, each_row, not_all, refuted, says_no}
use Rattle.ppdb_values_check.proofs.part.all_sound.Goals as goal

pub returns-then-not-is_sound-clause-rows : goal.returns-then-not-is_sound-clause-rows
returns-then-not-is_sound-clause-rows g c =
    answers (says_no (not_all (g.T.Part.sound c.args.counted.now) c.args.parts.now c.loop-part.part-index c.part-item.result c.loop-part-test.true
    c.part-item.is
    (refuted c.is_sound.result c.is_sound.ensures c.if-not-is_sound.true))) (each_row c.args.parts.now (g.T.Part.sound c.args.counted.now))

pub returns-clause-all : goal.returns-clause-all
returns-clause-all g c = (
  (λ _. all_taken (g.T.Part.sound c.args.counted.now) c.args.parts.now c.loop-part.part-index c.loop-part-test.false c.loop-part.invariant),
  (λ _. refl),
)

pub returns-clause-rows : goal.returns-clause-rows
returns-clause-rows g c = (
  (λ _. (each_row c.args.parts.now (g.T.Part.sound c.args.counted.now)).0
      (all_taken (g.T.Part.sound c.args.counted.now) c.args.parts.now c.loop-part.part-index c.loop-part-test.false c.loop-part.invariant)),
  (λ _. refl),
)
