use Rattle.ppdb_build_limits_laws.proofs.Limits.{late_alone}
use Rattle.ppdb_build_limits_laws.proofs.laws.valid_files_meet_late_limits.Goals as goal

pub returns : goal.returns
returns c = late_alone c.files_pass_no_list_limit.ensures c.files_pass_no_early_limit.ensures c.valid_files_are_sound.ensures
