-- The row counts of the type system, number by number.
use Rattle.std.proofs.Common.{replicate, set, ◌≢◌, length-set, get_or-set_other, get_or-set_same, below_more, length-append, ◌≡◌, ℕ, zero, suc, ◌+◌, ◌-◌, ◌≤◌, ◌<◌}
use Rattle.std.{proofs.Common.{List, [], ◌∷◌, length, take, get_or, refl, sym, ◌∙◌, arith, inl, inr}, specs.List.{repeat}, proofs.lemmas.Bool.{cases_lt}}
use Rattle.std.proofs.lemmas.List.{ext_get_or, get_or-take, get_or_append_left, get_or-append_right, length-take-le}
use Rattle.ppdb_values.specs.Value.{type_system_rows}

-- the first numbers are the counts, the others 0
pub record IsFilled (counts rows : List ℕ) (n : ℕ) : Type 0 where
  pub few : n ≤ 0x2d
  pub entries : length rows ≡ 64
  pub counted : (k : ℕ) → k < n → get_or rows k 0 ≡ get_or counts k 0
  pub others : (k : ℕ) → n ≤ k → get_or rows k 0 ≡ 0

zeros : (n k : ℕ) → ◌≡◌ {A = ℕ} (get_or (repeat n (0 ∷ [])) k 0) 0
zeros zero k = refl
zeros (suc n) zero = refl
zeros (suc n) (suc k) = zeros n k

number_is : (counts rows : List ℕ) (i : ℕ) → length (take 0x2d counts) ≡ 0x2d → IsFilled counts rows 0x2d
    → get_or rows i 0 ≡ get_or (type_system_rows counts) i 0
number_is counts rows i prefix h = elim (cases_lt i 0x2d) [
  | inl below ↦ h.counted i below
      ∙ sym (get_or-take 0x2d counts i 0 below)
      ∙ sym (get_or_append_left (take 0x2d counts) (repeat 19 (0 ∷ [])) 0 i (omega (arith, prefix, below)))
  | inr above ↦ h.others i above
      ∙ sym (get_or-append_right (take 0x2d counts) (repeat 19 (0 ∷ [])) 0x2d i 0 prefix above ∙ zeros 19 (i - 0x2d))
]

all_filled : (counts rows : List ℕ) → length counts ≡ 64 → IsFilled counts rows 0x2d → rows ≡ type_system_rows counts
all_filled counts rows many h =
    let prefix : length (take 0x2d counts) ≡ 0x2d = length-take-le 0x2d counts (omega (arith, many)) in
    let all : length (type_system_rows counts) ≡ 64 = simp length-append (omega (arith, prefix)) in
    let entries = h.entries in
    ext_get_or 0 rows (type_system_rows counts) (omega (arith, all, entries)) (λ i lt. number_is counts rows i prefix h)

-- one number more
pub filled_more : (counts rows more : List ℕ) (n count : ℕ) → n < 0x2d → IsFilled counts rows n → more ≡ set rows n count → count ≡ get_or counts n 0
    → IsFilled counts more (n + 1)
filled_more counts rows more n count lt h is counted =
    let entries = h.entries in
    rw is (record {
      few = omega arith;
      entries = simp length-set entries;
      counted = below_more (λ k. get_or (set rows n count) k 0 ≡ get_or counts k 0) n
          (λ k below. let ne : k ≢ n = omega arith in rw get_or-set_other (h.counted k below))
          (let within : n < length rows = omega (arith, lt, entries) in rw get_or-set_same counted);
      others = λ k above. let ne : k ≢ n = omega arith in rw get_or-set_other (h.others k (omega (arith, above)));
    })

pub filled : (counts rows : List ℕ) (n : ℕ) → length counts ≡ 64 → 0x2d ≤ n → IsFilled counts rows n → rows ≡ type_system_rows counts
filled counts rows n many past h = let few = h.few in let e : n ≡ 0x2d = omega (arith, past, few) in all_filled counts rows many (rw e at h)

zero_at : (n k : ℕ) → ◌≡◌ {A = ℕ} (get_or (replicate n 0) k 0) 0
zero_at zero k = refl
zero_at (suc n) zero = refl
zero_at (suc n) (suc k) = zero_at n k

pub zeros_filled : (counts : List ℕ) → IsFilled counts (replicate 64 0) 0
zeros_filled counts = record {
  few = omega arith;
  entries = refl;
  counted = λ k below. absurd (omega (arith, below));
  others = λ k above. zero_at 64 k;
}
