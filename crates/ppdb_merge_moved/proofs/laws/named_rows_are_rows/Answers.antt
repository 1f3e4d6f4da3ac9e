use Rattle.ppdb_merge_moved.proofs.NamedRows.{named_rows_are_rows}
use Rattle.ppdb_merge_moved.proofs.laws.named_rows_are_rows.Goals as goal

pub returns : goal.returns
returns c = named_rows_are_rows
