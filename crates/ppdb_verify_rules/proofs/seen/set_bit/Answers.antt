use Rattle.std.proofs.Common.{◌≡◌, ◌*◌, ◌/◌, ◌%◌, ◌^◌, get_or, set, ap, subst, ◌∙◌, sym, arith, w32, bit_or, inl, inr, get_or-set_same, get_or-set_other}
use Rattle.std.{specs.Int.{bit_at}, proofs.lemmas.Nat.Bits.{bit_at_set_same, bit_at_set_other, bit_at_or}, proofs.lemmas.Bool.{cases_eq}}
use Rattle.ppdb_verify_rules.proofs.seen.set_bit.Goals as goal

pub returns-clause-added : goal.returns-clause-added
returns-clause-added c =
    let number = c.args.number in
    let room = c.requires in
    ap (λ w. bit_at w (number % 32)) (get_or-set_same c.args.words.now (number / 32) _ 0 (omega arith)) ∙ bit_at_set_same w32 _ (number % 32) (omega arith)

pub returns-clause-kept : goal.returns-clause-kept
returns-clause-kept c n had =
    let words = c.args.words.now in
    let at = c.args.number / 32 in
    let one = 1 * 2 ^ (c.args.number % 32) % 2 ^ 32 in
    let new = bit_or (get_or words at 0) one in
    let room = c.requires in
    elim (cases_eq (n / 32) at) [
      | inl e ↦
          let old : bit_at (get_or words at 0) (n % 32) ≡ 1 = subst (λ k. bit_at (get_or words k 0) (n % 32) ≡ 1) e had in
          ap (λ w. bit_at w (n % 32)) (ap (λ k. get_or (set words at new) k 0) e ∙ get_or-set_same words at new 0 (omega arith))
          ∙ omega (arith, bit_at_or (get_or words at 0) one (n % 32))
      | inr other ↦ ap (λ w. bit_at w (n % 32)) (get_or-set_other words at (n / 32) new 0 other) ∙ had
    ]

pub returns-clause-only : goal.returns-clause-only
returns-clause-only c n has =
    let words = c.args.words.now in
    let number = c.args.number in
    let at = c.args.number / 32 in
    let one = 1 * 2 ^ (c.args.number % 32) % 2 ^ 32 in
    let new = bit_or (get_or words at 0) one in
    let room = c.requires in
    elim (cases_eq (n / 32) at) [
      | inl e ↦
          elim (cases_eq (n % 32) (number % 32)) [
            | inl same ↦ inr (omega (arith, e, same))
            | inr apart ↦
                let now : bit_at new (n % 32) ≡ 1 =
                sym (ap (λ w. bit_at w (n % 32)) (ap (λ k. get_or (set words at new) k 0) e ∙ get_or-set_same words at new 0 (omega arith))) ∙ has in
                let old : bit_at (get_or words at 0) (n % 32) ≡ 1 =
                sym (bit_at_set_other w32 (get_or words at 0) (number % 32) (omega arith) (n % 32) apart) ∙ now in
                inl (subst (λ k. bit_at (get_or words k 0) (n % 32) ≡ 1) (sym e) old)
          ]
      | inr other ↦ inl (sym (ap (λ w. bit_at w (n % 32)) (get_or-set_other words at (n / 32) new 0 other)) ∙ has)
    ]
