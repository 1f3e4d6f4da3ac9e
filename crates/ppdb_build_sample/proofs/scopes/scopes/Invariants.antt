use Rattle.std.{proofs.Common.{◌≡◌, ◌∷◌, [], flat_map}, specs.List.{range_with_len}}
use Rattle.ppdb_build_sample.proofs.Annotated.{outer_scope, inner_scope}
use Rattle.ppdb_build_sample.proofs.scopes.scopes.Given as goal

abbrev pub invariant-loop-before : goal.invariant-loop-before
invariant-loop-before l = l.scopes ≡ flat_map (λ i. outer_scope i ∷ inner_scope i ∷ []) (range_with_len 1 l.before)
