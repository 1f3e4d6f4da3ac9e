use Rattle.std.{proofs.Common.{List, ℕ, ◌≡◌, ◌<◌, ◌≤◌, ◌+◌, ◌^◌, length, take, get_or, arith}, specs.Char.{digit_value}, specs.Str.Parse.{AllDigits, digits_value}}
use Rattle.std.proofs.lemmas.{Grind.{common_steps}, List.{length-take-le}, Str.{digit_value_digit}, Str.Parse.{digit_from_value}, Int.Digits.{digits_value_more}}
use Rattle.std.proofs.lemmas.Int.Digits.{digits_more}
use Rattle.ppdb_maps.{specs.Spelling.{MaySpell}, proofs.OnePass.{few_digits, number_there}}
use Rattle.ppdb_maps.proofs.one_pass.number_before.Goals as goal

below : (bytes : List ℕ) (count value most : ℕ) → AllDigits 10 (take count bytes) → value ≡ digits_value 10 (take count bytes) → count ≤ length bytes
    → count ≤ most
    → value < 10 ^ most
below bytes count value most are say inside few =
    let h : digits_value 10 (take count bytes) < 10 ^ most = few_digits (take count bytes) most are (omega (arith, length-take-le count bytes inside, few)) in
    omega (arith, h, say)

pub overflow_mul-value : goal.overflow_mul-value
overflow_mul-value c =
    let h : c.loop-byte.value < 100000000 =
    below c.args.bytes.now c.loop-byte.count c.loop-byte.value 8 c.loop-byte.invariant.are c.loop-byte.invariant.say
    (omega (arith, c.loop-byte.invariant.counted)) (omega (arith, c.loop-byte.invariant.few)) in
    grind (arith, common_steps, h)

pub overflow_add-value : goal.overflow_add-value
overflow_add-value c =
    let h : c.loop-byte.value < 100000000 =
    below c.args.bytes.now c.loop-byte.count c.loop-byte.value 8 c.loop-byte.invariant.are c.loop-byte.invariant.say
    (omega (arith, c.loop-byte.invariant.counted)) (omega (arith, c.loop-byte.invariant.few)) in
    grind (arith, common_steps, h)

pub loop-byte-preserved : goal.loop-byte-preserved
loop-byte-preserved c =
    let lt : c.loop-byte.count < length c.args.bytes.now = omega (arith, c.loop-byte.invariant.counted) in
    let digit : digit_value (get_or c.args.bytes.now c.loop-byte.count 0) < 10 = grind (arith, common_steps) in
    let same : digit_value (get_or c.args.bytes.now c.loop-byte.count 0) + 48 ≡ get_or c.args.bytes.now c.loop-byte.count 0 = digit_value_digit _
    (digit_from_value _ digit) in
    let more = digits_value_more 10 c.args.bytes.now c.loop-byte.count lt in
    record {
      counted = omega (arith, c.loop-byte.invariant.counted);
      few = omega (arith, c.loop-byte.invariant.few);
      are = digits_more 10 c.args.bytes.now c.loop-byte.count lt c.loop-byte.invariant.are digit;
      say = grind (arith, more, same, c.from.ensures, c.loop-byte.invariant.counted, c.loop-byte.invariant.say);
    }

pub returns-then-may_spell : goal.returns-then-may_spell
returns-then-may_spell c =
    let lt : c.loop-byte.count < length c.args.bytes.now = omega (arith, c.loop-byte.invariant.counted) in
    let h : c.loop-byte.value < 1000000000 =
    below c.args.bytes.now c.loop-byte.count c.loop-byte.value 9 c.loop-byte.invariant.are c.loop-byte.invariant.say (omega (arith, lt))
    (omega (arith, c.loop-byte.invariant.few)) in
    let here : get_or c.args.bytes.now c.loop-byte.count 0 ≡ c.args.end = grind (arith, common_steps) in
    let may : MaySpell (take c.loop-byte.count c.args.bytes.now) = grind (arith, common_steps) in
    number_there c.args.bytes.now c.loop-byte.count c.args.end c.loop-byte.value lt here may c.loop-byte.invariant.are c.loop-byte.invariant.say
    (omega (arith, h))
