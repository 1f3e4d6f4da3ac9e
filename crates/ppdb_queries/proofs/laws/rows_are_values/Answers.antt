use Rattle.ppdb_queries.proofs.Agreeing.{document_is, customs_are, scopes_are, imports_are, hoisted_is, positions_are}
use Rattle.ppdb_queries.proofs.laws.rows_are_values.Goals as goal

pub returns : goal.returns
returns c =
    record { document = document_is; customs = customs_are; scopes = scopes_are; imports = imports_are; hoisted = hoisted_is; positions = positions_are }
