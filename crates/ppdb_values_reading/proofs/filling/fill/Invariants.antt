use Rattle.std.{proofs.Common.{◌≡◌, ◌++◌, map, length}, specs.Prelude.{None}}
use Rattle.ppdb_values_reading.proofs.filling.fill.Given as goal

abbrev pub invariant-items : goal.invariant-items
invariant-items g l = record {
  whole : (g.C.BlobCursor.left l.cursor).fault ≡ None;
  read : map g.C.BlobCursor.seen l.into ++ (g.C.BlobCursor.left l.cursor).items ≡ (g.C.BlobCursor.left l.fn.cursor).items;
  kept : g.C.BlobCursor.kept l.cursor ≡ g.C.BlobCursor.kept l.fn.cursor;
}

abbrev pub decreases-items : goal.decreases-items
decreases-items g l = length (g.C.BlobCursor.left l.cursor).items
