-- Lengths of heaps that are reported.
use Rattle.ppdb_base.specs.Told.{told}
use Rattle.ppdb_build_layout.specs.declared.rows.HeapLens.{HeapLens}

-- each length as it is reported
abbrev pub told_lens : HeapLens → HeapLens
told_lens heaps = record { texts = told heaps.texts; guids = told heaps.guids; blobs = told heaps.blobs }
