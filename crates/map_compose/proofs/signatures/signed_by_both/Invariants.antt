use Rattle.std.proofs.Common.{◌≡◌, length}
use Rattle.map_compose.{specs.declared.part.Part.TheVariants.{Signatures}, specs.Parts.{all_numbers, numbers_left}, proofs.Signed.{signed_lines}}
use Rattle.map_compose.proofs.signatures.signed_by_both.Given as goal

abbrev pub invariant-methods : goal.invariant-methods
invariant-methods l =
    signed_lines l.first l.second (all_numbers Signatures l.first l.second) ≡ signed_lines l.first l.second (numbers_left Signatures l.first l.second l.passed)

abbrev pub decreases-methods : goal.decreases-methods
decreases-methods l = length (numbers_left Signatures l.first l.second l.passed)
