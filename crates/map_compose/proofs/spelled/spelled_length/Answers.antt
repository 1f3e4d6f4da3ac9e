use Rattle.std.proofs.Common.{ℕ, arith, sym, ap, cond, ◌∙◌}
use Rattle.map_compose.proofs.NameLengths.{spelled_next}
use Rattle.map_compose.proofs.spelled.spelled_length.Goals as goal
use Rattle.map_compose.proofs.spelled.spelled_length.Goals.{then-is_plain, else-is_plain}

pub loop-byte-preserved : goal.loop-byte-preserved
loop-byte-preserved c =
    let next = spelled_next c.args.name.now c.loop-byte.byte-index 0 c.loop-byte-test.true in
    let spelled = c.loop-byte.invariant.spelled in
    let few = c.loop-byte.invariant.few in
    elim c.if-is_plain.branch [
      | then-is_plain w ↦
          let one = ap {B = ℕ} (λ b. cond b 1 4) (sym c.is_plain.ensures ∙ w.if-is_plain.true) in
          let is = w.length-is in
          record { spelled = omega (arith, next, one, spelled, is); few = omega (arith, few, is) }
      | else-is_plain w ↦
          let four = ap {B = ℕ} (λ b. cond b 1 4) (sym c.is_plain.ensures ∙ w.if-is_plain.false) in
          let is = w.length-is in
          record { spelled = omega (arith, next, four, spelled, is); few = omega (arith, few, is) }
    ]
