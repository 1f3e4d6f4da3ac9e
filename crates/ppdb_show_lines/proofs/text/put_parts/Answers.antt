use Rattle.std.proofs.{Common.{arith, sym}, lemmas.List.{append-nil}}
use Rattle.ppdb_show_lines.proofs.{Keeping.{keeps_text}, Parts.{parts_then, parts_cut, parts_all}}
use Rattle.ppdb_show_lines.proofs.text.put_parts.Goals as goal

pub loop-part-init : goal.loop-part-init
loop-part-init g c = keeps_text _ _ _ _ _ (sym (append-nil _))

pub returns-in_err-put_part : goal.returns-in_err-put_part
returns-in_err-put_part g c =
    parts_cut _ _ _ _ _ _ _ _ _ _ _ _ c.args.parts.now c.loop-part.part-index _ (omega arith) c.loop-part.invariant c.from_residual.ensures.1
    c.in_err-put_part.ensures

pub loop-part-preserved : goal.loop-part-preserved
loop-part-preserved g c = parts_then _ _ _ _ _ _ _ _ _ c.args.parts.now c.loop-part.part-index _ (omega arith) c.loop-part.invariant c.in_ok-put_part.ensures

pub returns : goal.returns
returns g c = rw (parts_all c.args.parts.now c.loop-part.part-index (omega arith)) c.loop-part.invariant
