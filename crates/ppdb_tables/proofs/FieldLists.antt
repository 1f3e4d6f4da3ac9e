-- Fields among more fields.
use Rattle.std.proofs.Common.{◌≡◌, ℕ, suc, ◌+◌, ◌<◌, ◌≤◌, inl, inr, List, [], ◌∷◌, ◌++◌, length, sum, take, drop, get_or, refl, sym, ap, ◌∙◌, append_assoc, arith}
use Rattle.std.proofs.{lemmas.Bool.{cases_lt}, Math.Seq.{split_at}}
use Rattle.ppdb_base.{specs.Fields.{IsField}, proofs.Fields.{ends_by_cut, ends_within, sum_append, sum_cons}}

-- a field is one of more fields, after those before them
pub field_within : (prefix fields back : List ℕ) (at len : ℕ) → IsField fields at len → IsField (prefix ++ (fields ++ back)) (sum prefix + at) len
field_within prefix fields back at len f = record {
  before = prefix ++ f.before;
  after = f.after ++ back;
  in_order = ap (λ xs. prefix ++ (xs ++ back)) f.in_order ∙ simp append_assoc refl;
  place = ap (λ n. sum prefix + n) f.place ∙ sym (sum_append prefix f.before);
}

-- the field at an index
pub field_at : (fields : List ℕ) (i : ℕ) → i < length fields → IsField fields (sum (take i fields)) (get_or fields i 0)
field_at fields i lt = record { before = take i fields; after = drop (suc i) fields; in_order = split_at fields i 0 lt; place = refl }

-- a field that has bytes begins not after the last
pub starts_by : (prefix : List ℕ) (last at len : ℕ) → IsField (prefix ++ last ∷ []) at len → 0 < len → at ≤ sum prefix
starts_by prefix last at len f some =
    elim (cases_lt (sum prefix) at) [
      | inr le ↦ le
      | inl gt ↦
          let fields = prefix ++ last ∷ [] in
          let final : IsField fields (sum prefix) last = record { before = prefix; after = []; in_order = refl; place = refl } in
          let ends = ends_by_cut fields f.before (len ∷ f.after) (sum prefix) last final f.in_order (omega (arith, gt, f.place)) in
          absurd (omega (arith, ends, f.place, some, ends_within fields at len f, sum_append prefix (last ∷ []), sum_cons last []))
    ]

-- where no field passes an end, all lie before it
module _ (fields : List ℕ) (end : ℕ) (fit : (at len : ℕ) → IsField fields at len → at ≤ end → end < at + len → ⊥) where
  rest_fits : (before after : List ℕ) → fields ≡ before ++ after → sum before ≤ end → sum fields ≤ end
  rest_fits before [] cut le = omega (arith, le, ap sum cut, sum_append before [])
  rest_fits before (len ∷ after) cut le =
      elim (cases_lt end (sum before + len)) [
        | inl past ↦ absurd (fit (sum before) len (record { before = before; after = after; in_order = cut; place = refl }) le past)
        | inr within ↦
            rest_fits (before ++ len ∷ []) after (cut ∙ sym (append_assoc before (len ∷ []) after))
            (omega (arith, within, sum_append before (len ∷ []), sum_cons len []))
      ]

  pub all_fit : sum fields ≤ end
  all_fit = rest_fits [] fields refl (omega arith)
