use Rattle.ppdb_show_lines.proofs.Putting.{put_piece, put_prefix, put_whole}
use Rattle.ppdb_show.{specs.Show.{point_line}, proofs.Lines.{mapped_step, mapped_done}, proofs.Whole.{answered, ended}}
use Rattle.ppdb_show.proofs.show.methods.put_points.Goals as goal

pub points-preserved : goal.points-preserved
points-preserved g c =
    let e = answered c.points.points.left.items c.points.points.left.fault c.in-Ok-Some.point c.next.result c.in-Ok-Some.field-0 c.next.ensures.answer
    c.in-Ok-Some.is c.in-Ok-Some.field-0-is in
    rw c.next.ensures.left (record {
      whole = c.points.invariant.whole;
      put = put_piece _ _ _ _ _ _ _ _ _ (rw (mapped_step c.args.printer.form point_line c.points.points.left.items c.in-Ok-Some.point e) at
          c.points.invariant.put) c.in_ok-put_point-in-Ok-Some.ensures;
    })

pub returns-in_err-put_point-in-Ok-Some : goal.returns-in_err-put_point-in-Ok-Some
returns-in_err-put_point-in-Ok-Some g c =
    let e = answered c.points.points.left.items c.points.points.left.fault c.in-Ok-Some.point c.next.result c.in-Ok-Some.field-0 c.next.ensures.answer
    c.in-Ok-Some.is c.in-Ok-Some.field-0-is in
    put_prefix _ _ _ _ _ _ _ _ _ _ _ (rw (mapped_step c.args.printer.form point_line c.points.points.left.items c.in-Ok-Some.point e) at c.points.invariant.put)
    c.from_residual.ensures.1 c.in_err-put_point-in-Ok-Some.ensures

pub returns-in-Ok-None : goal.returns-in-Ok-None
returns-in-Ok-None g c =
    let e = ended c.points.points.left.items c.points.points.left.fault c.next.result c.in-Ok-None.field-0 c.next.ensures.answer c.in-Ok-None.is
    c.in-Ok-None.field-0-is in
    put_whole _ _ _ _ _ (rw (mapped_done c.args.printer.form point_line c.points.points.left.items e) at c.points.invariant.put)
