-- What the sample comes to, part by part.
use Rattle.std.{proofs.Common.{◌≡◌, ℕ, ◌≤◌, List, None, length, take, drop, sym, ◌∙◌, ap, subst}, specs.Option.{option_or}}
use Rattle.ppdb_build.specs.{declared.error.BuildError.{BuildError}, declared.error.BuildError.TheVariants.{Limit as Passed, Memory}, Building.{IsLimit}}
use Rattle.ppdb_build_canon.specs.{Canon.{canon, chosen_id}, Laws.{CanonicalFilesForgetIds, IdsStandAfterTheRoot}, Limits.{ValuesWithoutLimits, first_limit}}
use Rattle.ppdb_build_canon.specs.declared.choice.IdChoice.TheVariants.{Hash, Keep}
use Rattle.ppdb_values.specs.declared.file.FileValue.{FileValue}
use Rattle.ppdb_build_sample.specs.Sample.{sample}
use Rattle.ppdb_run.{specs.Sampled.{limit_of_sample, remapped_sample, report_of}, proofs.Identity.{behind_root, identity_is, same_length}}

-- ---- limits

pub first_passed : (n : ℕ) (e : BuildError) → IsLimit (first_limit (sample n)) e → IsLimit (limit_of_sample n) e
unfolding limit_of_sample
first_passed n (Passed limit) is = ap (λ o. option_or o (first_limit (remapped_sample n))) is
first_passed n Memory is = tt

pub second_passed : (n : ℕ) (e : BuildError) → first_limit (sample n) ≡ None → IsLimit (first_limit (remapped_sample n)) e → IsLimit (limit_of_sample n) e
unfolding limit_of_sample
second_passed n (Passed limit) none is = ap (λ o. option_or o (first_limit (remapped_sample n))) none ∙ is
second_passed n Memory none is = tt

pub none_passed : (n : ℕ) → first_limit (sample n) ≡ None → first_limit (remapped_sample n) ≡ None → limit_of_sample n ≡ None
unfolding limit_of_sample
none_passed n none also = ap (λ o. option_or o (first_limit (remapped_sample n))) none ∙ also

-- ---- lengths

-- the file of a value without a limit is short
pub kept_short : ValuesWithoutLimits → (value : FileValue) (file : List ℕ) → first_limit value ≡ None → file ≡ canon value Keep → length file ≤ 134217728
kept_short small value file none is = subst (λ l. length l ≤ 134217728) (sym is) (small value none).size

module _ (forget : CanonicalFilesForgetIds) (stands : IdsStandAfterTheRoot) (value : FileValue) (long : length value.id ≡ 20) (file : List ℕ)
    (is : file ≡ canon value Hash) where
  pub hashed_short : ValuesWithoutLimits → first_limit value ≡ None → length file ≤ 134217728
  hashed_short small none =
      subst (λ n. n ≤ 134217728) (sym (ap length is ∙ same_length forget stands value Hash long)) (small value none).size

  pub hashed_long : 132 ≤ length file
  hashed_long = subst (λ l. 132 ≤ length l) (sym is) (behind_root forget stands value Hash long)

  pub hashed_id : take 20 (drop 112 file) ≡ chosen_id value Hash
  hashed_id = ap (λ l. take 20 (drop 112 l)) is ∙ identity_is forget stands value Hash long

-- ---- the report

pub report_is : (n bytes remapped_bytes : ℕ) (id : List ℕ) → bytes ≡ length (canon (sample n) Keep) → remapped_bytes ≡ length (canon (remapped_sample n) Hash)
    → id ≡ chosen_id (remapped_sample n) Hash
    → record { bytes = bytes; remapped_bytes = remapped_bytes; remapped_id = id } ≡ report_of n
unfolding report_of
report_is n bytes remapped_bytes id b r i =
    ap (λ k. record { bytes = k; remapped_bytes = remapped_bytes; remapped_id = id }) b
    ∙ ap (λ k. record { bytes = length (canon (sample n) Keep); remapped_bytes = k; remapped_id = id }) r
    ∙ ap (λ k. record { bytes = length (canon (sample n) Keep); remapped_bytes = length (canon (remapped_sample n) Hash); remapped_id = k }) i
