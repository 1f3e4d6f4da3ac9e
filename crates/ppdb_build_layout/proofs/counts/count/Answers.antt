use Rattle.std.proofs.Common.{length, ap, sym, ◌∙◌, arith}
use Rattle.ppdb_build_layout.proofs.Tables.{next-none, length-some}
use Rattle.ppdb_build_layout.proofs.counts.count.Goals as goal
use Rattle.ppdb_build_layout.proofs.counts.count.Goals.{then-counts-first-gt0, else-counts-first-gt0}

pub loop-i-preserved : goal.loop-i-preserved
loop-i-preserved c =
    let counts = c.args.counts.now in
    let first = c.args.first in
    let i = c.loop-i.i in
    elim c.if-counts-first-gt0.branch [
      | then-counts-first-gt0 w ↦ record {
        exact = omega (arith, w.count-is, c.loop-i.invariant.exact, length-some counts first i w.if-counts-first-gt0.true);
        few = omega (arith, w.count-is, c.loop-i.invariant.few);
      }
      | else-counts-first-gt0 w ↦ record {
        exact = w.count-is ∙ c.loop-i.invariant.exact ∙ ap length (sym (next-none counts first i w.if-counts-first-gt0.false));
        few = omega (arith, w.count-is, c.loop-i.invariant.few);
      }
    ]
