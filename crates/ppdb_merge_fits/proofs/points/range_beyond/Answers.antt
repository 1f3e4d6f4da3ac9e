use Rattle.std.proofs.Common.{◌∙◌, ap, slice_get}
use Rattle.ppdb_tables.{specs.declared.rows.ScopeRow.{ScopeRow}, proofs.NumberedRows.{same_row}}
use Rattle.ppdb_verify.specs.Views.{raw_file}
use Rattle.ppdb_values.specs.Value.{range_of}
use Rattle.ppdb_merge_fits.specs.Offsets.{end_beyond}
use Rattle.ppdb_merge_fits.proofs.points.range_beyond.Goals as goal

pub returns : goal.returns
returns g c = λ cells there.
    c.end_beyond.ensures ∙ ap (λ (x : ScopeRow). slice_get (end_beyond c.args.map.now x.method (range_of x)) 0)
    (same_row (raw_file c.args.file.now).tables.scopes c.args.row c.scope-cells.result cells c.scope-cells.ensures.row there)
