use Rattle.cli_ints.proofs.Shortest.{short_signed-shortest}
use Rattle.cli_ints.proofs.laws.signed_law.Goals as goal

pub returns-clause-shortest : goal.returns-clause-shortest
returns-clause-shortest c = short_signed-shortest
