use Rattle.std.{proofs.Common.{◌≡◌, [], take}, specs.List.{filter_map}}
use Rattle.ppdb_build_canon.specs.Limits.{large_offset}
use Rattle.ppdb_build_limits.proofs.offsets.offset_limit.Given as goal

abbrev pub invariant-loop-method : goal.invariant-loop-method
invariant-loop-method l = filter_map large_offset (take l.method-index l.methods) ≡ []
