use Rattle.custom_info.proofs.WrittenRows.{written_rows}
use Rattle.custom_info.proofs.laws.written_rows_are_read.Goals as goal

pub returns : goal.returns
returns c = λ documents rows a b. written_rows documents rows a b
