-- The worked maps, by computation.
use Rattle.std.{proofs.Common.{refl, arith}, specs.Fmt.{digits}}
use Rattle.map_compose.specs.Worked.{WorkedComposed}

pub worked_maps : WorkedComposed
unfolding digits
worked_maps = record {
  cuts = refl;
  drops = refl;
  nothing = refl;
  no_slot = refl;
  one_image = refl;
  joined_across = refl;
  parted = refl;
  second_alone = refl;
  first_alone = refl;
  without_image = refl;
  exchanged = refl;
  no_size = refl;
  line_dropped = refl;
  image_dropped = refl;
  both_drop = refl;
  dropped_row = refl;
  types = refl;
  slot_taken_on = refl;
  slots_of_second = refl;
  nothing_kept = refl;
  no_run = refl;
  inside = refl;
  signature_moved = refl;
  signature_of_second = refl;
  signature_of_image = refl;
  signature_dropped = refl;
  named_by_both = refl;
  named_back = refl;
  named_by_bytes = refl;
  link_of_second = refl;
  link_of_first = refl;
  rows_by_old = refl;
  own_module = refl;
  shares_alone = refl;
  other_assembly = refl;
  assembly_gone = refl;
  there_and_back = refl;
  to_the_third = refl;
  gone_by_either = refl;
  moved_then_gone = refl;
  signature_gone = refl;
  gone_then_signature = refl;
  no_signature = refl;
  differs = record { a = _; b = _; there = refl; before = refl; after = refl; sizes = (refl, refl, λ e. omega (arith, e)) };
  differs_by_image = record { a = _; b = _; there = refl; before = refl; after = refl; sizes = (refl, refl, λ e. omega (arith, e)) };
}
