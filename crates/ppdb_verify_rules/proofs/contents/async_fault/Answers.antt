use Rattle.std.proofs.Common.{Option, sym, subst}
use Rattle.ppdb_base.specs.declared.fault.BlobFault.{BlobFault}
use Rattle.custom_info.specs.AsyncStepping.{async_stepping, entries_of}
use Rattle.blob_grammar.specs.Places.{HasEnd}
use Rattle.ppdb_verify_rules.proofs.contents.async_fault.Goals as goal

pub returns-in-Ok : goal.returns-in-Ok
returns-in-Ok c = subst (λ (f : Option BlobFault). HasEnd (async_stepping c.args.methods) c.args.content.now f)
    (sym c.fault_after.ensures.fault) (entries_of c.in-Ok.cursor.handler c.in-Ok.cursor.left.items, c.in-Ok.ensures.ok)
