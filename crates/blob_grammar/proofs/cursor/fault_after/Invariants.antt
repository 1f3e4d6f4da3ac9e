use Rattle.std.proofs.Common.{◌≡◌, length}
use Rattle.blob_grammar.proofs.cursor.fault_after.Given as goal

abbrev pub invariant-items : goal.invariant-items
invariant-items g l = record {
  fault : (g.C.BlobCursor.left l.cursor).fault ≡ (g.C.BlobCursor.left l.initial.cursor).fault;
  kept : g.C.BlobCursor.kept l.cursor ≡ g.C.BlobCursor.kept l.initial.cursor;
}

abbrev pub decreases-items : goal.decreases-items
decreases-items g l = length (g.C.BlobCursor.left l.cursor).items
