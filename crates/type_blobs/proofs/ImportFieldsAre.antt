-- The fields of imports, as a function of the blob.
use Rattle.std.{proofs.Common.{◌≡◌, ℕ, List, Option, sym, ap}, specs.Prelude.{◌↔◌}, specs.List.{flat_map}}
use Rattle.blob_grammar.{specs.Places.{HasFields}, proofs.PrefixFields.{are-fields, fields-are}}
use Rattle.type_blobs.specs.{declared.types.TypeLimits.{TypeLimits}, declared.import_part.ImportField.{ImportField}, Imports.{imports, import_field, import_fields}}
use Rattle.type_blobs.specs.Imports.{import_indexes, text_index}

module _ (limits : TypeLimits) (heap : ℕ → Option (List ℕ)) (blob : List ℕ) (fields : List ImportField) where
  pub import_fields-are : (fields ≡ import_fields limits heap blob) ↔ HasFields (imports limits heap) import_field blob fields
  import_fields-are = are-fields (imports limits heap) import_field blob fields

  pub import_indexes-are : HasFields (imports limits heap) import_field blob fields → import_indexes limits heap blob ≡ flat_map text_index fields
  unfolding import_indexes
  import_indexes-are h = ap (flat_map text_index) (sym (fields-are (imports limits heap) import_field blob fields h))
