use Rattle.std.proofs.Common.{rules}
use Rattle.sequence_points.{specs.Points.{IsSingleDocument}, proofs.Single.{single_is}}
use Rattle.sequence_points.proofs.point.single_document.Goals as goal

pub returns-then-all-clause-value : goal.returns-then-all-clause-value
returns-then-all-clause-value c =
    let is : IsSingleDocument c.args.points.now c.in-Some.first.now.document = search rules in
    single_is c.args.points.now c.in-Some.first.now.document is
