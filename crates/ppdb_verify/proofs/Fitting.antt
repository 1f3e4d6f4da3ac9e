-- Fields of which none passes the end.
use Rattle.std.proofs.{Common.{◌≡◌, ℕ, ◌+◌, ◌<◌, ◌≤◌, List, [], ◌∷◌, ◌++◌, sum, inl, inr, refl, sym, ap, ◌∙◌, append_assoc, arith}, lemmas.Bool.{cases_lt}}
use Rattle.std.proofs.lemmas.List.{append-nil}
use Rattle.ppdb_base.{specs.Fields.{IsField}, proofs.Fields.{sum_append}}

module _ (fields : List ℕ) (most : ℕ) (none_past : (at len : ℕ) → IsField fields at len → at ≤ most → most < at + len → ⊥) where
  fit_from : (before after : List ℕ) → fields ≡ before ++ after → sum before ≤ most → sum fields ≤ most
  fit_from before [] is le = let e : sum fields ≡ sum before = ap sum (is ∙ append-nil before) in omega (arith, e, le)
  fit_from before (len ∷ after) is le =
      let next : sum before + len ≤ most = elim (cases_lt most (sum before + len)) [
        | inl past ↦ absurd (none_past (sum before) len (record { before = before; after = after; in_order = is; place = refl }) le past)
        | inr within ↦ within
      ] in
      let e : sum (before ++ len ∷ []) ≡ sum before + sum (len ∷ []) = sum_append before (len ∷ []) in
      let one : sum (len ∷ []) ≡ len = omega arith in
      fit_from (before ++ len ∷ []) after (is ∙ sym (append_assoc before (len ∷ []) after)) (omega (arith, e, one, next))

  pub fields_fit : sum fields ≤ most
  fields_fit = fit_from [] fields refl (omega arith)
