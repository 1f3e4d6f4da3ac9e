use Rattle.std.proofs.Common.{arith}
use Rattle.ppdb_maps.proofs.Cutting.{many_words}
use Rattle.ppdb_maps.proofs.words.words_of.Goals as goal

pub returns-else-is_none : goal.returns-else-is_none
returns-else-is_none c =
    let one = rw c.in-Some.is at c.cut_at.ensures in
    let two = rw c.in-Some-rest.is at c.cut_at-2.ensures in
    let three = rw c.in-Some-rest-2.is at c.cut_at-3.ensures in
    let four = rw c.in-Some-rest-3.is at c.cut_at-4.ensures in
    record {
      few = λ le. absurd (omega (arith, le));
      many = λ _. many_words c.cut_at-5.result.1 c.args.line.now c.cut_at.result.0.now c.cut_at-2.result.0.now c.cut_at-3.result.0.now c.cut_at-4.result.0.now
          c.cut_at-5.result.0.now c.in-Some.rest.now c.in-Some-rest.rest.now c.in-Some-rest-2.rest.now c.in-Some-rest-3.rest.now one.0 two.0 three.0 four.0
          c.cut_at-5.ensures c.if-is_none.ensures;
    }
