use Rattle.ppdb_verify.specs.Views.{raw_file}
use Rattle.break_lines.proofs.Methods.{none_at, some_at}
use Rattle.break_lines.proofs.cursor.method_breaks.Goals as goal

pub returns-in_err-points-clause-breaks : goal.returns-in_err-points-clause-breaks
returns-in_err-points-clause-breaks g c row there =
    rw c.from_residual.ensures (none_at (raw_file c.args.file.now) c.args.document c.args.line c.args.method row there c.in_err-points.ensures)

pub returns-clause-breaks : goal.returns-clause-breaks
returns-clause-breaks g c row there =
    some_at (raw_file c.args.file.now) c.args.document c.args.line c.args.method c.in_ok-points.points.signature c.in_ok-points.points.left.items row there
    c.in_ok-points.ensures.0
