use Rattle.std.proofs.Common.{subst, ℕ, List}
use Rattle.ppdb_tables.specs.RawOf.{raw_of}
use Rattle.ppdb_heaps.specs.Heaps.{blob_at}
use Rattle.type_blobs.specs.{Imports.{imports}, declared.types.TypeLimits.{TypeLimits}}
use Rattle.blob_grammar.specs.Places.{HasEnd}
use Rattle.ppdb_verify_rules.proofs.contents.imports_fault.Goals as goal

pub returns : goal.returns
returns c =
    subst (λ (l : TypeLimits). HasEnd (imports l (blob_at (raw_of c.args.tables.now).blobs)) c.args.content.now c.imports_end.result) c.type_limits.ensures
    (subst (λ (b : List ℕ). HasEnd (imports c.type_limits.result (blob_at b)) c.args.content.now c.imports_end.result) c.blobs.ensures c.imports_end.ensures)
