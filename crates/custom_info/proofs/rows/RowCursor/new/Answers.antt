use Rattle.custom_info.proofs.RowsLeft.{rows_left-reads}
use Rattle.custom_info.proofs.rows.RowCursor.new.Goals as goal

pub returns : goal.returns
returns c = rows_left-reads c.args.documents c.args.blob.now
