-- The identity that stands in a file that is written.
use Rattle.std.proofs.{Common.{◌≡◌, ◌+◌, ◌≤◌, ◌++◌, length, take, drop, ◌∙◌, ap, arith}, lemmas.List.{length-append, length-take, length-drop, take_at, drop_at}}
use Rattle.ppdb_build_layout.specs.Bytes.{file_bytes}
use Rattle.ppdb_build_canon.specs.{Canon.{canon, chosen_id}, Canonical.{canonical}, Laws.{CanonicalFilesForgetIds, IdsStandAfterTheRoot}}
use Rattle.ppdb_build_canon.specs.declared.choice.IdChoice.{IdChoice}
use Rattle.ppdb_values.specs.declared.file.FileValue.{FileValue}

module _ (forget : CanonicalFilesForgetIds) (stands : IdsStandAfterTheRoot) (value : FileValue) (choice : IdChoice) (long : length value.id ≡ 20) where
  has_length : length (chosen_id value choice) ≡ 20
  has_length = forget.long value choice long

  bytes_are : canon value choice ≡ take 112 (canon value choice) ++ (chosen_id value choice ++ drop 132 (canon value choice))
  bytes_are = stands.bytes (canonical value (chosen_id value choice)) (chosen_id value choice) has_length has_length

  lengths : length (canon value choice) ≡ length (take 112 (canon value choice)) + (20 + length (drop 132 (canon value choice)))
  lengths =
      ap length bytes_are ∙ length-append (take 112 (canon value choice)) (chosen_id value choice ++ drop 132 (canon value choice))
      ∙ ap (λ n. length (take 112 (canon value choice)) + n) (length-append (chosen_id value choice) (drop 132 (canon value choice))
      ∙ ap (λ n. n + length (drop 132 (canon value choice))) has_length)

  pub behind_root : 132 ≤ length (canon value choice)
  behind_root = omega (arith, lengths, length-take 112 (canon value choice), length-drop 132 (canon value choice))

  pub identity_is : take 20 (drop 112 (canon value choice)) ≡ chosen_id value choice
  identity_is =
      ap (λ l. take 20 (drop 112 l)) bytes_are
      ∙ ap (take 20) (drop_at (take 112 (canon value choice)) (chosen_id value choice ++ drop 132 (canon value choice)) 112 prefix)
      ∙ take_at (chosen_id value choice) (drop 132 (canon value choice)) 20 has_length
    where
      prefix : length (take 112 (canon value choice)) ≡ 112
      prefix = omega (arith, behind_root, length-take 112 (canon value choice))

  -- another identity does not change the length
  pub same_length : length (canon value choice) ≡ length (file_bytes (canonical value value.id))
  same_length = stands.len (canonical value value.id) (chosen_id value choice) long has_length
