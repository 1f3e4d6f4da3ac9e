use Rattle.std.proofs.{Common.{arith}, lemmas.Grind.{common_steps}}
use Rattle.cli_ints.proofs.Shortest.{is-short_signed}
use Rattle.cli_ints.proofs.spelling.spell_signed.Goals as goal

pub returns-then-value-lt64-clause-bytes : goal.returns-then-value-lt64-clause-bytes
returns-then-value-lt64-clause-bytes c = is-short_signed c.one_byte.result c.args.value c.requires.low c.requires.high (grind (arith, common_steps))

pub returns-then-value-lt8192-clause-bytes : goal.returns-then-value-lt8192-clause-bytes
returns-then-value-lt8192-clause-bytes c = is-short_signed c.two_bytes.result c.args.value c.requires.low c.requires.high (grind (arith, common_steps))

pub returns-else-value-geminus8192-clause-bytes : goal.returns-else-value-geminus8192-clause-bytes
returns-else-value-geminus8192-clause-bytes c = is-short_signed c.four_bytes.result c.args.value c.requires.low c.requires.high (grind (arith, common_steps))
