use Rattle.break_lines.proofs.Names.{names_are_parts}
use Rattle.break_lines.proofs.laws.names_are_parts.Goals as goal

pub returns : goal.returns
returns c = names_are_parts
