use Rattle.break_lines.proofs.Rows.{breaks_are_rows}
use Rattle.break_lines.proofs.laws.breaks_are_rows.Goals as goal

pub returns : goal.returns
returns c = breaks_are_rows
