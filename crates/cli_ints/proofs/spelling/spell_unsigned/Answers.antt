use Rattle.std.proofs.{Common.{arith}, lemmas.Grind.{common_steps}}
use Rattle.cli_ints.proofs.Shortest.{is-short_unsigned}
use Rattle.cli_ints.proofs.spelling.spell_unsigned.Goals as goal

pub returns-then-value-lt128-clause-bytes : goal.returns-then-value-lt128-clause-bytes
returns-then-value-lt128-clause-bytes c = is-short_unsigned c.one_byte.result c.args.value c.requires (grind (arith, common_steps))

pub returns-then-value-lt16384-clause-bytes : goal.returns-then-value-lt16384-clause-bytes
returns-then-value-lt16384-clause-bytes c = is-short_unsigned c.two_bytes.result c.args.value c.requires (grind (arith, common_steps))

pub returns-else-value-lt16384-clause-bytes : goal.returns-else-value-lt16384-clause-bytes
returns-else-value-lt16384-clause-bytes c = is-short_unsigned c.four_bytes.result c.args.value c.requires (grind (arith, common_steps))
