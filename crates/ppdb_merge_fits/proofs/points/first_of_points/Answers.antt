use Rattle.std.proofs.Common.{sym, ◌∙◌, ap}
use Rattle.ppdb_maps.specs.Says.{sizes_of}
use Rattle.ppdb_values.specs.Value.{value_of}
use Rattle.ppdb_verify.specs.Views.{raw_file}
use Rattle.ppdb_merge_fits.proofs.Methods.{unlined, lined_points, pointless}
use Rattle.ppdb_merge_fits.proofs.points.first_of_points.Goals as goal

pub returns-in_err-size : goal.returns-in_err-size
returns-in_err-size g c =
    c.from_residual.ensures
    ∙ sym (unlined c.args.map.now (value_of (raw_file c.args.file.now)) c.args.row
    (ap sizes_of (sym c.method.ensures) ∙ sym c.sizes.ensures ∙ c.in_err-size.was))

pub returns-in_err-cursor : goal.returns-in_err-cursor
returns-in_err-cursor g c =
    c.from_residual-in_err-cursor.ensures
    ∙ sym (pointless c.args.map.now (value_of (raw_file c.args.file.now)) c.args.row c.in_err-cursor.ensures)

pub returns : goal.returns
returns g c =
    c.first_past.ensures
    ∙ lined_points c.args.map.now (value_of (raw_file c.args.file.now)) c.args.row _ c.in_ok-cursor.cursor.signature c.in_ok-cursor.cursor.left.items
    (ap sizes_of (sym c.method.ensures) ∙ sym c.sizes.ensures ∙ c.in_ok-size.was) c.in_ok-cursor.ensures.0
