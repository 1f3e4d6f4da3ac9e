use Rattle.std.proofs.Common.{◌∙◌, subst}
use Rattle.ppdb_build.specs.Building.{IsLimit}
use Rattle.ppdb_build_canon.specs.Limits.{first_limit}
use Rattle.ppdb_run.proofs.Reporting.{first_passed, kept_short}
use Rattle.ppdb_run.proofs.report.sample_file.Goals as goal

pub returns-in-Ok-clause-short : goal.returns-in-Ok-clause-short
returns-in-Ok-clause-short c =
    kept_short c.values_without_limits_are_small.ensures c.in_ok-value.value c.in-Ok.file c.in-Ok.ensures.within c.in-Ok.ensures.written

pub returns-in-Ok-clause-says : goal.returns-in-Ok-clause-says
returns-in-Ok-clause-says c = λ raw is. (c.in-Ok.ensures.again raw is).value_is ∙ c.in_ok-value.ensures

pub returns-clause-limit : goal.returns-clause-limit
returns-clause-limit c =
    first_passed c.args.methods c.in-Err.error (subst (λ v. IsLimit (first_limit v) c.in-Err.error) c.in_ok-value.ensures c.in-Err.ensures.limit)
