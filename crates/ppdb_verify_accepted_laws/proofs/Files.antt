-- A file in whose rows nothing is bad keeps the rules.
use Rattle.ppdb_verify_accepted_laws.{specs.Accepted.{HasGoodRows}, proofs.Documents.{documents_kept}, proofs.Methods.{methods_kept}, proofs.Scopes.{scopes_kept}}
use Rattle.ppdb_verify_accepted_laws.proofs.{Variables.{variables_kept}, Constants.{constants_kept}, Imports.{imports_kept}, Machines.{machines_kept}}
use Rattle.ppdb_verify_accepted_laws.proofs.Customs.{customs_kept}
use Rattle.ppdb_values.specs.{RawFile.{RawFile}, Rules.{KeepsRules}}

pub rules_kept : (raw : RawFile) → HasGoodRows raw → KeepsRules raw
rules_kept raw good =
    let accepted = good.accepted in
    record {
      shape = good.shape;
      entry = good.entry;
      documents = documents_kept raw.tables accepted;
      methods = methods_kept raw.tables accepted good.shape good.methods;
      scopes = scopes_kept raw.tables accepted;
      variables = variables_kept raw.tables accepted good.shape;
      constants = constants_kept raw.tables accepted good.shape;
      imports = imports_kept raw.tables accepted good.shape;
      machines = machines_kept raw.tables accepted;
      customs = customs_kept raw.tables accepted;
    }
