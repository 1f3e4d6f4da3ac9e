-- The text and the part indexes of a document name, as functions of the blob.
use Rattle.std.{proofs.Common.{◌≡◌, ℕ, List, None, ap, ◌∙◌}, specs.Prelude.{◌↔◌}}
use Rattle.blob_grammar.{specs.declared.places.PlacedIndex.{PlacedIndex}, specs.Places.{HasFields}, proofs.PrefixFields.{are-fields, records_are_cut}}
use Rattle.ppdb_heaps.specs.Names.{names, part_index, joined, IsName, name_of, name_indexes}

-- A blob that is a whole name has one text, and it is name_of.
pub name_of-is : (blobs blob name : List ℕ) → IsName blobs blob name → name ≡ name_of blobs blob
unfolding name_of
name_of-is blobs blob name h = h.text ∙ ap joined (records_are_cut (names blobs) blob h.parts None h.whole)

pub name_indexes-are : (blobs blob : List ℕ) (indexes : List PlacedIndex)
    → (indexes ≡ name_indexes blobs blob) ↔ HasFields (names blobs) part_index blob indexes
name_indexes-are blobs blob indexes = are-fields (names blobs) part_index blob indexes
