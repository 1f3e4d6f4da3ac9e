-- The header and the points make the blob.
use Rattle.std.proofs.Common.{◌≡◌, ◌≢◌, ℕ, zero, suc, Bool, true, false, List, [], ◌∷◌, ◌++◌, refl, sym, ap, subst, ◌∙◌, append_assoc, append-nil, Some}
use Rattle.std.specs.Prelude.{cond}
use Rattle.cli_ints.specs.Shortest.{short_unsigned}
use Rattle.sequence_points.specs.{declared.point.Point.{Point}, Points.{common_document}, Written.{initial_document, header_bytes, points_bytes}}
use Rattle.sequence_points_moved.{specs.Writing.{IsWalked, IsBlobIn, header_in}, proofs.Documents.{common_first}}

no_initial : (n : ℕ) (points : List Point) → (n ≡ 0 → ⊥) → initial_document n points ≡ []
no_initial zero points some = absurd (some refl)
no_initial (suc n) points some = refl

header_is : (in_one : Bool) (signature : ℕ) (first : Point) (ps : List Point) → (in_one ≡ true → common_document (first ∷ ps) ≢ 0)
    → (in_one ≡ false → common_document (first ∷ ps) ≡ 0)
    → header_in in_one signature first ≡ header_bytes signature (first ∷ ps)
header_is true signature first ps one several =
    sym (ap (λ xs. short_unsigned signature ++ xs) (no_initial (common_document (first ∷ ps)) (first ∷ ps) (one refl)) ∙ append-nil (short_unsigned signature))
header_is false signature first ps one several = ap (λ n. short_unsigned signature ++ initial_document n (first ∷ ps)) (sym (several refl))

column_is : (in_one : Bool) (first : Point) (ps : List Point) → (in_one ≡ true → common_document (first ∷ ps) ≢ 0)
    → (in_one ≡ false → common_document (first ∷ ps) ≡ 0)
    → cond in_one first.document 0 ≡ common_document (first ∷ ps)
column_is true first ps one several = common_first first ps (one refl)
column_is false first ps one several = sym (several refl)

-- the whole blob
pub blob_is : (in_one : Bool) (signature : ℕ) (all : List Point) (first : Point) (ps : List Point) (old header into : List ℕ) (row : ℕ) → all ≡ first ∷ ps
    → header ≡ old ++ header_in in_one signature first
    → IsWalked in_one (first ∷ ps) header into true → (in_one ≡ false → common_document all ≡ 0) → row ≡ cond in_one first.document 0
    → IsBlobIn in_one signature all old into (Some row)
blob_is in_one signature all first ps old header into row cut begun walked several is =
    let none : in_one ≡ false → common_document (first ∷ ps) ≡ 0 = λ e. sym (ap common_document cut) ∙ several e in
    subst (λ (points : List Point). IsBlobIn in_one signature points old into (Some row)) (sym cut) (
      walked.0 ∙ ap (λ xs. xs ++ points_bytes [] (first ∷ ps)) (begun ∙ ap (λ xs. old ++ xs) (header_is in_one signature first ps walked.2 none))
          ∙ append_assoc old (header_bytes signature (first ∷ ps)) (points_bytes [] (first ∷ ps)),
      is ∙ column_is in_one first ps walked.2 none,
      walked.1,
    )
