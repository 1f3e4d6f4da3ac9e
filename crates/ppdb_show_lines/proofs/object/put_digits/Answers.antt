use Rattle.std.proofs.Common.{rules}
use Rattle.json.proofs.Printed.Decimals.{IsNumber-decimal}
use Rattle.ppdb_show_lines.proofs.object.put_digits.Goals as goal

pub number-requires : goal.number-requires
number-requires c = rw c.format.ensures.text (IsNumber-decimal c.args.number (search rules))
