use Rattle.std.{proofs.Common.{arith, refl, sym, ap, length, ◌<◌}, specs.Fmt.{decimal}}
use Rattle.ppdb_maps.specs.Map.{slots_of}
use Rattle.map_compose.proofs.{Bounds.{few_slots_of}, SlotLines.{slot_inside, digits_next, block_is}}
use Rattle.map_compose.proofs.slot_blocks.block_of.Goals as goal

pub slots-init : goal.slots-init
slots-init c = record { within = omega arith; digits = refl; few = omega arith }

pub overflow_add-digits : goal.overflow_add-digits
overflow_add-digits c =
    let one = c.digits_of.ensures.few in
    let two = c.digits_of-in-Some.ensures.few in
    let digits = c.slots.invariant.few in
    let within = c.slots.invariant.within in
    let few = few_slots_of c.args.map.now c.args.method c.facts.ensures in
    omega (arith, one, two, digits, within, few)

pub overflow_add-slots : goal.overflow_add-slots
overflow_add-slots c =
    let within = c.slots.invariant.within in
    let few = few_slots_of c.args.map.now c.args.method c.facts.ensures in
    omega (arith, within, few)

pub slots-smaller : goal.slots-smaller
slots-smaller c =
    let inside : c.slots.slots < length (slots_of c.args.map.now c.args.method) =
    slot_inside _ c.slots.slots c.in-Some.old c.in-Some.new (sym c.in-Some.ensures) in
    omega (arith, inside)

pub slots-preserved : goal.slots-preserved
slots-preserved c =
    let inside : c.slots.slots < length (slots_of c.args.map.now c.args.method) =
    slot_inside _ c.slots.slots c.in-Some.old c.in-Some.new (sym c.in-Some.ensures) in
    let next = digits_next (slots_of c.args.map.now c.args.method) c.slots.slots c.in-Some.old c.in-Some.new (sym c.in-Some.ensures) in
    let one = c.digits_of.ensures in
    let two = c.digits_of-in-Some.ensures in
    let digits = c.slots.invariant.digits in
    let few = c.slots.invariant.few in
    let old = ap (λ n. length (decimal n)) c.from.ensures in
    let new = ap (λ n. length (decimal n)) c.from-in-Some.ensures in
    record {
      within = omega (arith, inside);
      digits = omega (arith, next, one.digits, two.digits, digits, old, new);
      few = omega (arith, few, one.few, two.few);
    }

pub returns : goal.returns
returns c = block_is c.args.map.now c.args.method c.slots.slots c.slots.digits (sym c.in_default.ensures) c.slots.invariant.within c.slots.invariant.digits
