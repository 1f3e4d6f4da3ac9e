-- The file of a draft is the one that is written.
use Rattle.std.proofs.Common.{◌≡◌, ℕ, List, length, replicate, refl, ap, ◌∙◌}
use Rattle.sha2.specs.Sha256.{sha256}
use Rattle.ppdb_build_layout.specs.Bytes.{file_bytes}
use Rattle.ppdb_values.specs.declared.file.FileValue.{FileValue}
use Rattle.ppdb_build_canon.specs.{declared.choice.IdChoice.{IdChoice}, declared.choice.IdChoice.TheVariants.{Hash, Keep}, Canonical.{canonical}, Canon.{canon}}
use Rattle.ppdb_build_canon.{specs.Canon.{chosen_id, id_from}, proofs.Ids.{ids_forgotten}}
use Rattle.ppdb_build_draft.specs.Draft.{Draft}
use Rattle.ppdb_build_bytes.specs.Drafts.{file_from, id_in}

pub written_is : (value : FileValue) (counts : List ℕ) (draft : Draft) (choice : IdChoice) → length value.id ≡ 20
    → ((id : List ℕ) → length id ≡ 20 → file_from id value.entry counts draft ≡ canonical value id)
    → file_bytes (file_from (id_in choice value.id value.entry counts draft) value.entry counts draft) ≡ canon value choice
written_is value counts draft Keep long file = ap file_bytes (file value.id long)
written_is value counts draft Hash long file =
    let zero = replicate 20 0 in
    ap (λ bytes. file_bytes (file_from (id_from (sha256 bytes)) value.entry counts draft)) (ap file_bytes (file zero refl))
    ∙ ap file_bytes (file (chosen_id value Hash) (ids_forgotten.long value Hash long))
