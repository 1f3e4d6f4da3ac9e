use Rattle.std.proofs.Common.{sym, ◌∙◌, arith, true≢false}
use Rattle.ppdb_build_limits.proofs.Firsts.{method_rows_counted}
use Rattle.ppdb_build_limits.proofs.lengths.count_methods.Goals as goal

pub returns-else-is_empty : goal.returns-else-is_empty
returns-else-is_empty c =
    let counted = method_rows_counted c.args.value.now c.args.value.now.methods (λ none. true≢false (sym (c.is_empty.ensures.1 none) ∙ c.if-is_empty.false)) in
    omega (arith, counted)
