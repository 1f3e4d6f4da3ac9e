use Rattle.std.{proofs.Common.{◌≡◌, [], take, fold}, specs.List.{filter_map}}
use Rattle.ppdb_build_canon.specs.Limits.{large_step_of}
use Rattle.ppdb_build_draft.specs.Draft.{with_method}
use Rattle.ppdb_build.proofs.parts.add_methods.Given as goal

abbrev pub invariant-loop-method : goal.invariant-loop-method
invariant-loop-method l = record {
  added : l.draft ≡ fold with_method l.initial.draft (take l.method-index l.methods);
  none : filter_map large_step_of (take l.method-index l.methods) ≡ [];
}
