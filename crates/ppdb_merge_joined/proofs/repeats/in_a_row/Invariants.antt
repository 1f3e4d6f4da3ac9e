use Rattle.std.{proofs.Common.{◌≡◌}, specs.Prelude.{flat_map}}
use Rattle.ppdb_merge_joined.proofs.repeats.in_a_row.Given as goal

abbrev pub invariant-loop-input : goal.invariant-loop-input
invariant-loop-input g l = l.items ≡ flat_map (λ items. items) l.yielded
