-- How many bytes the heaps of a draft take (ECMA-335 II.24.2.2).
use Rattle.std.specs.Prelude.{◌*◌, length, flat_map}
use Rattle.ppdb_build_heaps.specs.Items.{as_text, as_blob}
use Rattle.ppdb_build_layout.specs.{declared.rows.HeapLens.HeapLens, Bytes.padded}
use Rattle.ppdb_build_draft.specs.Draft.{Draft}

-- the lengths of the heaps with their padding; a GUID has 16 bytes
abbrev pub heap_lens_of : Draft → HeapLens
heap_lens_of draft = record {
  texts = length (padded (flat_map as_text draft.texts.items));
  guids = 16 * length draft.guids;
  blobs = length (padded (flat_map as_blob draft.blobs.items));
}
