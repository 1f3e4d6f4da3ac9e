use Rattle.cli_ints.proofs.Shortest.{short_unsigned-shortest}
use Rattle.cli_ints.proofs.laws.unsigned_law.Goals as goal

pub returns-clause-shortest : goal.returns-clause-shortest
returns-clause-shortest c = short_unsigned-shortest
