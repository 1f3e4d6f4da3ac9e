use Rattle.std.proofs.Common.{◌≡◌, ◌+◌, ◌≤◌, ◌++◌, List, length, map}
use Rattle.ppdb_values.specs.declared.{file.DocumentValue.{DocumentValue}, annotation.Annotation.{Annotation}}
use Rattle.ppdb_merge_joined.specs.Gathered.{Holds, row_after}
use Rattle.ppdb_merge_joined.proofs.documents.Documents.add_all.Given as goal

abbrev pub invariant-loop-document : goal.invariant-loop-document
invariant-loop-document l = record {
  gathered : (before : List (Annotation DocumentValue)) → Holds before l.fn.self → Holds (before ++ l.yielded) l.self;
  rows : (before : List (Annotation DocumentValue)) → Holds before l.fn.self
      → l.rows ≡ map (λ document. row_after (before ++ l.yielded) document.item.name) l.yielded;
  most : length l.self.gathered ≤ length l.fn.self.gathered + length l.yielded;
}
