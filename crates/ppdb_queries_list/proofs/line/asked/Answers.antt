use Rattle.std.proofs.Common.{sym, ◌∙◌}
use Rattle.ppdb_queries_list.proofs.Cuts.{too_many, no_method, no_offset}
use Rattle.ppdb_queries_list.proofs.line.asked.Goals as goal

pub returns-then-is_some : goal.returns-then-is_some
returns-then-is_some c =
    too_many c.cut_at-2.result.1 c.args.line.now c.cut_at.result.0.now c.in-Some.rest.now c.cut_at-2.result.0.now (rw c.in-Some.is at c.cut_at.ensures)
    c.cut_at-2.ensures
    (sym c.is_some.ensures ∙ c.if-is_some.true)

pub returns-in_err-method : goal.returns-in_err-method
returns-in_err-method c =
    rw c.from_residual.ensures (no_method c.args.line.now c.cut_at.result.0.now c.in-Some.rest.now (rw c.in-Some.is at c.cut_at.ensures) c.in_err-method.ensures)

pub returns-in_err-offset : goal.returns-in_err-offset
returns-in_err-offset c =
    rw c.from_residual-in_err-offset.ensures
    (no_offset c.cut_at-2.result.1 c.args.line.now c.cut_at.result.0.now c.in-Some.rest.now c.cut_at-2.result.0.now (rw c.in-Some.is at c.cut_at.ensures)
    c.cut_at-2.ensures (sym c.is_some.ensures ∙ c.if-is_some.false) c.in_err-offset.ensures)
