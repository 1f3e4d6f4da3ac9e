-- The blob indexes inside a blob stand in the order of their bytes.
use Rattle.std.{proofs.Common.{ℕ, ◌+◌, ◌≤◌, List, [], ◌∷◌, ◌++◌, length, Option, Some, None, Bool, true, false, arith, if◌then◌else◌}, specs.List.{flat_map}}
use Rattle.blob_grammar.specs.{declared.places.PlacedIndex.{PlacedIndex}, Grammar.{Value, number, integer, octets, Field, Cut, with_value}, Places.{placed_from}}
use Rattle.blob_grammar.specs.Reader.{prefix_of}
use Rattle.ppdb_heaps.specs.Names.{NamePart, names, part_index, name_indexes}
use Rattle.type_blobs.specs.{declared.types.TypeLimits.{TypeLimits}, declared.import_part.ImportPart.{ImportPart}, Imports.{ImportItem, imports, next_part}}
use Rattle.type_blobs.specs.Imports.{field_of, import_field, names_text, text_index, import_indexes}

-- each index stands after those before it, from a byte on
abbrev pub Ascends : ℕ → List PlacedIndex → Type 0
Ascends from [] = Unit {0}
Ascends from (x ∷ xs) = (from ≤ x.byte) × Ascends x.byte xs

from_later : (at next : ℕ) (xs : List PlacedIndex) → at ≤ next → Ascends next xs → Ascends at xs
from_later at next [] le h = tt
from_later at next (x ∷ xs) le h = (omega (arith, le, h.0), h.1)

parts_ascend : (blobs : List ℕ) (place : Cut NamePart) (at : ℕ) (fs : List Field) → Ascends at (flat_map part_index (placed_from (names blobs) place at fs))
parts_ascend blobs place at [] = tt
parts_ascend blobs place at (f ∷ fs) = one f.value (parts_ascend blobs (with_value (names blobs) place f.value) (at + length f.bytes) fs)
  where
    one : (v : Value) → Ascends (at + length f.bytes)
        (flat_map part_index (placed_from (names blobs) (with_value (names blobs) place f.value) (at + length f.bytes) fs))
        → Ascends at (part_index (record { byte = at; before = place.begun; value = v })
        ++ flat_map part_index (placed_from (names blobs) (with_value (names blobs) place f.value) (at + length f.bytes) fs))
    one (number n) rest = (omega arith, from_later at (at + length f.bytes) _ (omega arith) rest)
    one (integer z) rest = from_later at (at + length f.bytes) _ (omega arith) rest
    one (octets xs) rest = from_later at (at + length f.bytes) _ (omega arith) rest

pub names_ascend : (blobs blob : List ℕ) → Ascends 0 (name_indexes blobs blob)
names_ascend blobs blob = parts_ascend blobs (record { whole = []; begun = [] }) 0 (prefix_of (names blobs) blob)

module _ (limits : TypeLimits) (heap : ℕ → Option (List ℕ)) where
  texts_ascend : (place : Cut ImportItem) (at : ℕ) (fs : List Field)
      → Ascends at (flat_map text_index (flat_map import_field (placed_from (imports limits heap) place at fs)))
  texts_ascend place at [] = tt
  texts_ascend place at (f ∷ fs) = one (next_part place.begun) f.value (from_later at (at + length f.bytes) _ (omega arith)
      (texts_ascend (with_value (imports limits heap) place f.value) (at + length f.bytes) fs))
    where
      text : (b : Bool) (n : ℕ) (rest : List PlacedIndex) → Ascends at rest → Ascends at ((if b then record { byte = at; index = n } ∷ [] else []) ++ rest)
      text true n rest h = (omega arith, h)
      text false n rest h = h

      one : (o : Option ImportPart) (v : Value)
          → Ascends at (flat_map text_index (flat_map import_field (placed_from (imports limits heap) (with_value (imports limits heap) place f.value)
          (at + length f.bytes) fs)))
          → Ascends at (flat_map text_index (field_of o at v
          ++ flat_map import_field (placed_from (imports limits heap) (with_value (imports limits heap) place f.value) (at + length f.bytes) fs)))
      one (Some part) (number n) rest = text (names_text part) n _ rest
      one (Some part) (integer z) rest = rest
      one (Some part) (octets xs) rest = rest
      one None v rest = rest

  pub imports_ascend : (blob : List ℕ) → Ascends 0 (import_indexes limits heap blob)
  unfolding import_indexes
  imports_ascend blob = texts_ascend (record { whole = []; begun = [] }) 0 (prefix_of (imports limits heap) blob)
