-- What is kept of inputs whose rows are read again when they are joined.
use Rattle.ppdb_values.specs.{Names.{list_any, source_link}, declared.custom.CustomValue.{CustomValue}}
use Rattle.std.specs.Prelude.{◌≡◌, ◌≤◌, ℕ, ◌&&◌, cond, nat_lt, bytes_eq, List, Option, None, length, map, take}
use Rattle.ppdb_maps.specs.Map.{Map}
use Rattle.ppdb_verify.specs.Views.{raw_file}
use Rattle.ppdb_merge_items.specs.Worked.{empty_annotated}
use Rattle.ppdb_merge_moved.specs.Moved.{moved_custom}
use Rattle.ppdb_merge_meaning_laws.specs.Kept.{MovedBy}
use Rattle.ppdb_merge_rows.specs.declared.inputs.RowInput.{RowInput}
use Rattle.ppdb_merge.specs.{declared.row_index.RowIndex.RowIndex, declared.row_trace.RowTrace.RowTrace, declared.trace.Trace.Trace}
use Rattle.ppdb_merge.specs.{Indexes.Indexes, Inputs.{AreFitting, ReadInput, traces_of}, Refusals.{has_other_link, is_other_link}}

-- the kinds that are marked as free, what is kept of each input, and what each says with its map, in order
pub record RowMerged : Type 0 where
  pub marks : List (List ℕ)
  pub traces : List Trace
  pub inputs : List MovedBy

abbrev pub read_input : RowInput → ReadInput
read_input input = record { raw = raw_file input.file; map = input.map }

abbrev pub read_inputs : List RowInput → List ReadInput
read_inputs inputs = map read_input inputs

-- what a merger of values keeps of inputs
abbrev pub traces_in : List RowInput → List Trace
traces_in inputs = traces_of (read_inputs inputs)

-- ---- counts and images

-- what is kept of an input beside its file and its map
abbrev pub row_trace : Trace → RowTrace
row_trace t = record { counts = t.moved.rows; rows = t.rows }

abbrev pub row_traces : List RowInput → List RowTrace
row_traces inputs = map row_trace (traces_in inputs)

-- an input with these counts and images that says nothing
abbrev pub counting : RowTrace → Trace
counting t = record { moved = record empty_annotated { rows = t.counts }; rows = t.rows }

-- ---- Source Link records

-- what becomes of a Source Link record on a row of the type system; none of any other record
abbrev pub link_after : Map → CustomValue → Option CustomValue
link_after m c = cond (nat_lt c.parent.table 0x2d && bytes_eq c.kind source_link) (moved_custom m c) None

-- among these records is one with another value on a row of Module if and only if there is one among those of all inputs
abbrev pub HoldsLinks : List Trace → List CustomValue → Type 0
HoldsLinks traces links = (row : ℕ) (value : List ℕ) → list_any (is_other_link row value) links ≡ has_other_link traces row value

-- the index is that of all of some inputs
pub record IndexesRows (traces : List Trace) (rows : RowIndex) : Type 0 where
  pub index : Indexes traces rows.index
  pub links : HoldsLinks traces rows.links

-- the index is that of the first few of some inputs
abbrev pub IsIndexOf : List Trace → RowIndex → Type 0
IsIndexOf traces rows = (rows.index.inputs ≤ length traces) × IndexesRows (take rows.index.inputs traces) rows

-- Inputs that fit under these marks, what else is kept of each, and the index of the first few.
pub record AreKept (marks : List (List ℕ)) (inputs : List RowInput) (kept : List RowTrace) (rows : RowIndex) : Type 0 where
  pub fitting : AreFitting marks (read_inputs inputs)
  pub traces : kept ≡ row_traces inputs
  pub index : IsIndexOf (traces_in inputs) rows
