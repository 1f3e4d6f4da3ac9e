use Rattle.std.proofs.Common.{ap, sym, ◌∙◌, arith}
use Rattle.ppdb_build_canon.specs.Limits.{large_offset}
use Rattle.ppdb_build_limits.proofs.Firsts.{first_at, none_more}
use Rattle.ppdb_build_limits.proofs.offsets.offset_limit.Goals as goal

pub returns-in-Some : goal.returns-in-Some
returns-in-Some c =
    sym (first_at large_offset c.args.methods.now c.loop-method.method-index c.method-item.result c.in-Some.limit (omega arith) c.loop-method.invariant
    (ap large_offset (sym c.method-item.is) ∙ sym c.in-Some.ensures))

pub loop-method-preserved : goal.loop-method-preserved
loop-method-preserved c =
    none_more large_offset c.args.methods.now c.loop-method.method-index c.method-item.result (omega arith) c.loop-method.invariant
    (ap large_offset (sym c.method-item.is) ∙ sym c.in-None.ensures)
