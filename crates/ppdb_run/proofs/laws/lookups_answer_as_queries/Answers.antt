use Rattle.ppdb_run.proofs.AsQueries.{as_json, as_text, one_each}
use Rattle.ppdb_run.proofs.laws.lookups_answer_as_queries.Goals as goal

pub returns-clause-text : goal.returns-clause-text
returns-clause-text c = as_text

pub returns-clause-json : goal.returns-clause-json
returns-clause-json c = as_json

pub returns-clause-each : goal.returns-clause-each
returns-clause-each c = one_each
