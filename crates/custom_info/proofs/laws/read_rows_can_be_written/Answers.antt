use Rattle.custom_info.proofs.ReadRows.{read_rows}
use Rattle.custom_info.proofs.laws.read_rows_can_be_written.Goals as goal

pub returns : goal.returns
returns c = λ documents blob rows fault r. read_rows documents blob rows fault r
