use Rattle.std.{proofs.Common.{◌<◌, length, arith, sym, ◌∙◌, subst}, specs.Str.Lines.{lines}, proofs.lemmas.Grind.{common_steps}}
use Rattle.ppdb_queries_list.proofs.Checking.{SoFar, first_of, is_said, not_said, nothing_left, so_far_list, so_far_more, so_far_other, so_far_start}
use Rattle.ppdb_queries_list.proofs.check.check_list.Goals as goal

pub loop-rest-init : goal.loop-rest-init
loop-rest-init c = record { so_far = so_far_start (lines c.args.list.now); room = grind arith }

pub loop-rest-preserved : goal.loop-rest-preserved
loop-rest-preserved c =
    let some : 0 < length c.loop-rest.rest.now = grind (arith, common_steps) in
    let shorter = c.first_line.ensures.shorter some in
    let cut = first_of c.loop-rest.rest.now c.first_line.result.0.now c.first_line.result.1.now some c.first_line.ensures in
    record {
      so_far = so_far_more (lines c.args.list.now) (lines c.loop-rest.rest.now) (lines c.first_line.result.1.now) c.first_line.result.0.now c.loop-rest.number
          c.loop-rest.invariant.so_far cut
          (is_said c.read_line.result c.first_line.result.0.now c.read_line.ensures c.if-is_none.ensures);
      room = grind (arith, shorter, c.loop-rest.invariant.room);
    }

pub returns-then-is_none-clause-other : goal.returns-then-is_none-clause-other
returns-then-is_none-clause-other c =
    let some : 0 < length c.loop-rest.rest.now = grind (arith, common_steps) in
    let cut = first_of c.loop-rest.rest.now c.first_line.result.0.now c.first_line.result.1.now some c.first_line.ensures in
    so_far_other (lines c.args.list.now) (lines c.loop-rest.rest.now) (lines c.first_line.result.1.now) c.first_line.result.0.now c.loop-rest.number
    c.loop-rest.invariant.so_far cut
    (not_said c.read_line.result c.first_line.result.0.now c.read_line.ensures c.if-is_none.ensures)

pub returns-clause-listed : goal.returns-clause-listed
returns-clause-listed c =
    let empty = nothing_left c.loop-rest.rest.now (sym c.is_empty.ensures ∙ c.loop-rest-test.false) in
    so_far_list (lines c.args.list.now) c.loop-rest.number (subst (λ rest. SoFar (lines c.args.list.now) rest c.loop-rest.number) empty c.loop-rest.invariant.so_far)
