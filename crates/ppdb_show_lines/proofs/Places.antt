-- The tokens of a part by its place.
use Rattle.std.proofs.Common.{ℕ, zero, suc, ◌-◌, ◌≡◌, ◌<◌, ◌≤◌, List, [], ◌∷◌, ◌++◌, length, get_or, refl, sym, ◌∙◌, ap, append_assoc, arith, append-nil}
use Rattle.std.{specs.Prelude.{Some, Result, Ok, Err, OnOk}, specs.Option.{option_map}, proofs.lemmas.Option.{slice_get-map, slice_get-get_or, slice_get_past}}
use Rattle.json.specs.Token.{Token}
use Rattle.ppdb_show_lines.specs.{declared.line.Part.{Part}, Tokens.{field_tokens, member_tokens}, Views.{field_of, line_of}}

pub part_there : (word : List ℕ) (parts : List Part) (place : ℕ) (p : Part) → (place ≡ 0 → ⊥) → place - 1 < length parts → get_or parts (place - 1) p ≡ p
    → member_tokens (line_of word parts) place ≡ field_tokens (Some (field_of p))
part_there word parts zero p some within is = absurd (some refl)
part_there word parts (suc i) p some within is =
    let e : suc i - 1 ≡ i = omega arith in
    ap field_tokens (slice_get-map field_of parts i ∙ ap (option_map field_of) (slice_get-get_or parts i p (omega arith)
    ∙ ap (λ (q : Part). Some q) (rw e at is)))

pub part_past : (word : List ℕ) (parts : List Part) (place : ℕ) → (place ≡ 0 → ⊥) → length parts ≤ place - 1 → member_tokens (line_of word parts) place ≡ []
part_past word parts zero some past = absurd (some refl)
part_past word parts (suc i) some past = ap field_tokens (slice_get-map field_of parts i ∙ ap (option_map field_of) (slice_get_past parts i (omega arith)))

-- a key, and its value
pub two_tokens : {T E : Type 0} (r : Result T E) (old mid new : List Token) (a b : Token) (both : List Token)
    → mid ≡ old ++ a ∷ [] → OnOk r (new ≡ mid ++ b ∷ []) → both ≡ a ∷ b ∷ [] → OnOk r (new ≡ old ++ both)
two_tokens (Ok x) old mid new a b both first second e =
    second ∙ ap (λ (ts : List Token). ts ++ b ∷ []) first ∙ append_assoc old (a ∷ []) (b ∷ []) ∙ ap (λ (ts : List Token). old ++ ts) (sym e)
two_tokens (Err x) old mid new a b both first second e = tt

pub no_tokens : (old more : List Token) → more ≡ [] → old ≡ old ++ more
no_tokens old more e = rw e (sym (append-nil old))
