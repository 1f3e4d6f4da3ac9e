use Rattle.std.proofs.Common.{sym, ◌∙◌, arith}
use Rattle.ppdb_verify.specs.Views.{raw_file}
use Rattle.ppdb_merge_fits.{specs.Offsets.{points_beyond}, proofs.Rows.{method_hit, method_miss, no_method}}
use Rattle.ppdb_merge_fits.proofs.points.first_point_beyond.Goals as goal

pub returns-in-Some : goal.returns-in-Some
returns-in-Some g c =
    sym (method_hit (raw_file c.args.file.now) (points_beyond c.args.map.now) c.rows.row c.values_are_rows.ensures
    (omega (arith, c.facts.ensures.rules.shape.methods)) c.in-Some.error c.rows.invariant (sym c.first_of_points.ensures ∙ c.in-Some.is))

pub rows-preserved : goal.rows-preserved
rows-preserved g c =
    method_miss (raw_file c.args.file.now) (points_beyond c.args.map.now) c.rows.row c.values_are_rows.ensures
    (omega (arith, c.facts.ensures.rules.shape.methods)) c.rows.invariant (sym c.first_of_points.ensures ∙ c.in_default.is)

pub returns : goal.returns
returns g c =
    sym (no_method (raw_file c.args.file.now) (points_beyond c.args.map.now) c.rows.row (omega (arith, c.facts.ensures.rules.shape.methods)) c.rows.invariant)
