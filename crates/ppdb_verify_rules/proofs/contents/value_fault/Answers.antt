use Rattle.std.proofs.Common.{subst, ℕ}
use Rattle.custom_info.specs.{AsyncStepping.{async_stepping}, TypeDocuments.{type_documents}}
use Rattle.blob_grammar.specs.Places.{HasEnd}
use Rattle.ppdb_verify_rules.proofs.contents.value_fault.Goals as goal

pub returns-in-Async : goal.returns-in-Async
returns-in-Async c = rw c.in-Async.is (subst (λ (n : ℕ). HasEnd (async_stepping n) c.args.content.now c.async_fault.result) c.rows.ensures
    c.async_fault.ensures)

pub returns-in-TypeDocuments : goal.returns-in-TypeDocuments
returns-in-TypeDocuments c = rw c.in-TypeDocuments.is (subst (λ (n : ℕ). HasEnd (type_documents n) c.args.content.now c.type_documents_fault.result)
    c.rows-in-TypeDocuments.ensures c.type_documents_fault.ensures)
