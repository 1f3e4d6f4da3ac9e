use Rattle.std.proofs.Common.{◌≡◌, ◌+◌, ◌^◌, ap, sym, ◌∙◌, arith}
use Rattle.ppdb_build_layout.{specs.Bytes.{bits_of}, proofs.Tables.{next-none, bits-some, doubled, one_bit}}
use Rattle.ppdb_build_layout.proofs.counts.bits.Goals as goal
use Rattle.ppdb_build_layout.proofs.counts.bits.Goals.{then-counts-first-gt0, else-counts-first-gt0}

pub loop-i-preserved : goal.loop-i-preserved
loop-i-preserved c =
    let counts = c.args.counts.now in
    let first = c.args.first in
    let i = c.loop-i.i in
    let up : 2 ^ (first + (i + 1)) ≡ 2 ^ (first + i) + 2 ^ (first + i) = ap (λ n. 2 ^ n) (omega arith) ∙ doubled (first + i) in
    elim c.if-counts-first-gt0.branch [
      | then-counts-first-gt0 w ↦
          let one = one_bit (first + i) (omega (arith, c.requires, c.loop-i-test.true)) in
          record {
            sum = w.bits-is ∙ ap (λ n. c.loop-i.bits + n) one ∙ ap (λ n. n + 2 ^ (first + i)) c.loop-i.invariant.sum
                ∙ sym (bits-some counts first i w.if-counts-first-gt0.true);
            below = omega (arith, w.bits-is, one, up, c.loop-i.invariant.below);
          }
      | else-counts-first-gt0 w ↦ record {
        sum = w.bits-is ∙ c.loop-i.invariant.sum ∙ ap bits_of (sym (next-none counts first i w.if-counts-first-gt0.false));
        below = omega (arith, w.bits-is, up, c.loop-i.invariant.below);
      }
    ]
