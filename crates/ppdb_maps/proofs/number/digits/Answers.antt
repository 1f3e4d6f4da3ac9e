use Rattle.std.{proofs.Common.{List, ℕ, ◌≡◌, ◌<◌, ◌≤◌, ◌+◌, length, take, get_or, arith}, specs.Char.{digit_value}, specs.Str.Parse.{AllDigits, digits_value}}
use Rattle.std.proofs.lemmas.{Grind.{common_steps}, List.{length-take-le}, Str.{digit_value_digit}, Str.Parse.{digit_at, digit_from_value}}
use Rattle.std.proofs.lemmas.Int.Digits.{digits_value_more, digits_more}
use Rattle.ppdb_maps.proofs.Numbers.{nine_digits}
use Rattle.ppdb_maps.proofs.number.digits.Goals as goal

pub returns-then-not-is_ascii_digit : goal.returns-then-not-is_ascii_digit
returns-then-not-is_ascii_digit c =
    λ all. let h = digit_at c.args.word.now c.loop-byte.byte-index all (omega arith) in grind (arith, common_steps, h)

below : (word : List ℕ) (i value : ℕ) → AllDigits 10 (take i word) → value ≡ digits_value 10 (take i word) → i < length word → length word ≤ 10
    → value < 1000000000
below word i value are say lt few =
    let h : digits_value 10 (take i word) < 1000000000 = nine_digits (take i word) are (omega (arith, length-take-le i word (omega arith))) in
    omega (arith, h, say)

pub overflow_mul-value : goal.overflow_mul-value
overflow_mul-value c =
    let h = below c.args.word.now c.loop-byte.byte-index c.loop-byte.value c.loop-byte.invariant.are c.loop-byte.invariant.say (omega arith) c.requires in
    grind (arith, common_steps, h)

pub overflow_add-value : goal.overflow_add-value
overflow_add-value c =
    let h = below c.args.word.now c.loop-byte.byte-index c.loop-byte.value c.loop-byte.invariant.are c.loop-byte.invariant.say (omega arith) c.requires in
    grind (arith, common_steps, h)

pub loop-byte-preserved : goal.loop-byte-preserved
loop-byte-preserved c =
    let lt : c.loop-byte.byte-index < length c.args.word.now = omega arith in
    let digit : digit_value (get_or c.args.word.now c.loop-byte.byte-index 0) < 10 = grind (arith, common_steps) in
    let same : digit_value (get_or c.args.word.now c.loop-byte.byte-index 0) + 48 ≡ get_or c.args.word.now c.loop-byte.byte-index 0 = digit_value_digit _
    (digit_from_value _ digit) in
    let more = digits_value_more 10 c.args.word.now c.loop-byte.byte-index lt in
    record {
      are = digits_more 10 c.args.word.now c.loop-byte.byte-index lt c.loop-byte.invariant.are digit;
      say = grind (arith, more, same, c.from.ensures);
      few = c.requires;
    }
