use Rattle.ppdb_tables.specs.RawTables.{row_at}
use Rattle.ppdb_values.specs.Value.{value_of}
use Rattle.ppdb_verify.specs.Views.{raw_file}
use Rattle.ppdb_merge.{specs.Rows.{link_after}, proofs.RowWalks.{silent_row}}
use Rattle.ppdb_merge.proofs.row_links.add_link.Goals as goal

pub returns-in_default : goal.returns-in_default
returns-in_default g c =
    silent_row (link_after c.args.input.now.map) c.args.links.now (row_at (value_of (raw_file c.args.input.now.file)).customs c.args.row) c.in_ok-link.field-0
    c.in_default.is c.in_ok-link.ensures
