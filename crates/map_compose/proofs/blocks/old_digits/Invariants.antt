use Rattle.std.proofs.Common.{◌≡◌, ◌^◌}
use Rattle.map_compose.proofs.Digits.{capped}
use Rattle.map_compose.proofs.blocks.old_digits.Given as goal

abbrev pub invariant-least : goal.invariant-least
invariant-least l = record {
  power : l.least ≡ 10 ^ l._power;
  digits : l.digits ≡ capped l.run l._power l.others;
}
