use Rattle.ppdb_verify_valid_laws.proofs.GoodRows.{good_rows_kept}
use Rattle.ppdb_verify_valid_laws.proofs.laws.good_rows_are_kept_rules.Goals as goal

pub returns : goal.returns
returns c = good_rows_kept
