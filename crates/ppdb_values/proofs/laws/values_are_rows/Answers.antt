use Rattle.ppdb_values.proofs.{Mapped.{scopes_are_rows, chain_is_rows}, Rows.{method_is_row}}
use Rattle.ppdb_values.proofs.laws.values_are_rows.Goals as goal

pub returns : goal.returns
returns c = record { method = method_is_row; scopes = scopes_are_rows; chain = chain_is_rows }
