use Rattle.std.proofs.Common.{Option, sym, subst}
use Rattle.ppdb_base.specs.declared.fault.BlobFault.{BlobFault}
use Rattle.ppdb_heaps.specs.{Heaps.{blob_at}, Views.{blobs_of}}
use Rattle.type_blobs.specs.Imports.{imports}
use Rattle.blob_grammar.specs.Places.{HasEnd}
use Rattle.ppdb_verify_rules.proofs.contents.imports_end.Goals as goal

pub returns : goal.returns
returns c = subst (λ (f : Option BlobFault). HasEnd (imports c.args.limits (blob_at (blobs_of c.args.blobs))) c.args.content.now f)
    (sym c.fault_after.ensures.fault) (c.new.result.items, c.new.ensures)
