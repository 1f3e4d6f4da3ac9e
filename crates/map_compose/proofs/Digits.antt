-- How many digits numbers have, by the powers of ten that they reach.
use Rattle.std.proofs.Common.{ℕ, zero, suc, ◌≡◌, ◌+◌, ◌-◌, ◌*◌, ◌/◌, ◌%◌, ◌^◌, ◌<◌, ◌≤◌, Bool, true, false, cond, List, [], ◌∷◌, length, refl, ap, arith, min}
use Rattle.std.{proofs.Common.{length-append, slice_index_or}, specs.Prelude.{nat_lt}, specs.Fmt.{decimal}, specs.List.{AllByRecursion}}
use Rattle.std.proofs.{Math.Nat.{le-div_iff_mul-le, one-le-pow, pow-suc}, lemmas.Bool.{ltb-true, ltb-false}, lemmas.Fmt.{decimal_step, decimal_nonempty}}
use Rattle.std.proofs.lemmas.Fmt.{length-decimal-le}
use Rattle.ppdb_base.specs.declared.offsets.Run.{Run}
use Rattle.map_compose.specs.Lengths.{taken_on, old_digits, not_less}

-- a number that reaches a power of ten has a digit more
reaches : (k x : ℕ) → 10 ^ k ≤ x → x < 2 ^ 32 → k < length (decimal x)
reaches zero x le below = decimal_nonempty x (omega (arith, below))
reaches (suc k) x le below =
    let p = one-le-pow k 10 (omega arith) in
    let e : 10 ^ suc k ≡ 10 ^ k * 10 = pow-suc 10 k in
    let ten : 10 ≤ x = omega (arith, le, p, e) in
    let tenth : 10 ^ k ≤ x / 10 = (le-div_iff_mul-le {k = 10} {x = 10 ^ k} {y = x} (omega arith)).1 (omega (arith, le, e)) in
    let rest = reaches k (x / 10) tenth (omega (arith, below)) in
    let step = ap length (decimal_step x ten (omega (arith, below))) in
    let joined = length-append (decimal (x / 10)) ((48 + x % 10) ∷ []) in
    omega (arith, rest, step, joined)

-- up to so many digits, of each number
abbrev pub capped : Run → ℕ → List Run → ℕ
capped run most [] = 0
capped run most (other ∷ others) = min (length (decimal (taken_on run other).old)) most + capped run most others

-- OLD of each line is an offset
abbrev pub Small : Run → Run → Type 0
Small run other = (taken_on run other).old < 2 ^ 32

one_more : (k x : ℕ) → 0 < k → x < 2 ^ 32 → min (length (decimal x)) (k + 1) ≡ min (length (decimal x)) k + cond (nat_lt x (10 ^ k)) 0 1
one_more k x some below = of (nat_lt x (10 ^ k)) refl
  where
    of : (b : Bool) → nat_lt x (10 ^ k) ≡ b → min (length (decimal x)) (k + 1) ≡ min (length (decimal x)) k + cond b 0 1
    of true is = let few = length-decimal-le k x some (ltb-true x (10 ^ k) is) (omega (arith, below)) in omega (arith, few)
    of false is = let many = reaches k x (ltb-false x (10 ^ k) is) below in omega (arith, many)

pub capped_next : (run : Run) (k : ℕ) (others : List Run) → 0 < k → AllByRecursion (Small run) others
    → capped run (k + 1) others ≡ capped run k others + not_less run (10 ^ k) others
capped_next run k [] some all = refl
capped_next run k (other ∷ others) some all =
    let one = one_more k (taken_on run other).old some all.0 in
    let rest = capped_next run k others some all.1 in
    omega (arith, one, rest)

pub capped_one : (run : Run) (others : List Run) → AllByRecursion (Small run) others → capped run 1 others ≡ length others
capped_one run [] all = refl
capped_one run (other ∷ others) all =
    let some = decimal_nonempty (taken_on run other).old (omega (arith, all.0)) in
    let rest = capped_one run others all.1 in
    omega (arith, some, rest)

pub capped_all : (run : Run) (others : List Run) → AllByRecursion (Small run) others → capped run 10 others ≡ old_digits run others
capped_all run [] all = refl
capped_all run (other ∷ others) all =
    let few = length-decimal-le 10 (taken_on run other).old (omega arith) (omega (arith, all.0)) (omega (arith, all.0)) in
    let rest = capped_all run others all.1 in
    omega (arith, few, rest)

-- no count is more than all of them
pub capped_few : (run : Run) (most : ℕ) (others : List Run) → most ≤ 10 → capped run most others ≤ 10 * length others
capped_few run most [] le = omega arith
capped_few run most (other ∷ others) le = let rest = capped_few run most others le in omega (arith, rest, le)

pub few_less : (run : Run) (least : ℕ) (others : List Run) → not_less run least others ≤ length others
few_less run least [] = omega arith
few_less run least (other ∷ others) = of (nat_lt (taken_on run other).old least) (few_less run least others)
  where
    of : (b : Bool) → not_less run least others ≤ length others → cond b 0 1 + not_less run least others ≤ suc (length others)
    of true few = omega (arith, few)
    of false few = omega (arith, few)

pub few_old : (run : Run) (others : List Run) → AllByRecursion (Small run) others → old_digits run others ≤ 10 * length others
few_old run others all = let e = capped_all run others all in let h = capped_few run 10 others (omega arith) in omega (arith, e, h)

-- they stand from the place on before which all are less
pub parted_count : (run : Run) (least : ℕ) (others : List Run) (n : ℕ)
    → ((k : ℕ) (d : Run) → k < n → k < length others → nat_lt (taken_on run (slice_index_or others k d)).old least ≡ true)
    → ((k : ℕ) (d : Run) → n ≤ k → k < length others → nat_lt (taken_on run (slice_index_or others k d)).old least ≡ false)
    → not_less run least others ≡ length others - n
parted_count run least [] n less more = omega arith
parted_count run least (other ∷ others) zero less more =
    let here = ap (λ b. cond b 0 1 + not_less run least others) (more 0 other (omega arith) (omega arith)) in
    let rest = parted_count run least others 0 (λ k d lt within. absurd (omega (arith, lt)))
    (λ k d le within. more (suc k) d (omega arith) (omega (arith, within))) in
    omega (arith, here, rest)
parted_count run least (other ∷ others) (suc n) less more =
    let here = ap (λ b. cond b 0 1 + not_less run least others) (less 0 other (omega arith) (omega arith)) in
    let rest = parted_count run least others n (λ k d lt within. less (suc k) d (omega (arith, lt)) (omega (arith, within)))
    (λ k d le within. more (suc k) d (omega (arith, le)) (omega (arith, within))) in
    omega (arith, here, rest)
