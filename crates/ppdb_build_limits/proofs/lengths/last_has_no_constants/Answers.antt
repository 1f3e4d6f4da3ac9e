use Rattle.std.proofs.Common.{length, nat_eq, ap, sym, ◌∙◌}
use Rattle.ppdb_values.specs.declared.scope.ScopeValue.{ScopeValue}
use Rattle.ppdb_build_canon.specs.Limits.{owns_none}
use Rattle.ppdb_build_limits.proofs.Firsts.{last_is}
use Rattle.ppdb_build_limits.proofs.lengths.last_has_no_constants.Goals as goal

pub returns-in-Some : goal.returns-in-Some
returns-in-Some c =
    ap (λ n. nat_eq n 0) c.len.ensures
    ∙ ap (owns_none (λ (scope : ScopeValue). length scope.constants)) (c.in-Some.ensures.value ∙ sym (last_is c.args.scopes.now))
