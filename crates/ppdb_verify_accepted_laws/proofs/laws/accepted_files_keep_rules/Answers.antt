use Rattle.ppdb_verify_accepted_laws.proofs.Files.{rules_kept}
use Rattle.ppdb_verify_accepted_laws.proofs.laws.accepted_files_keep_rules.Goals as goal

pub returns : goal.returns
returns c = rules_kept
