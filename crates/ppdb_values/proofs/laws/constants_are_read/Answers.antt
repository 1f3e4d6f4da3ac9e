use Rattle.ppdb_values.proofs.Readings.{modifiers_are, body_is}
use Rattle.ppdb_values.proofs.laws.constants_are_read.Goals as goal

pub returns : goal.returns
returns c = record { modifiers = modifiers_are; body_is = body_is }
