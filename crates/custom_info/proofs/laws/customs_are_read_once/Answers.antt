use Rattle.blob_grammar.proofs.Unique.{read-once}
use Rattle.custom_info.specs.{AsyncStepping.{async_stepping}, HoistedScopes.{hoisted_scopes}, TypeDocuments.{type_documents}}
use Rattle.custom_info.proofs.laws.customs_are_read_once.Goals as goal

pub returns-clause-steps : goal.returns-clause-steps
returns-clause-steps c = λ methods blob. read-once (async_stepping methods) blob

pub returns-clause-slots : goal.returns-clause-slots
returns-clause-slots c = λ blob. read-once hoisted_scopes blob

pub returns-clause-rows : goal.returns-clause-rows
returns-clause-rows c = λ documents blob. read-once (type_documents documents) blob
