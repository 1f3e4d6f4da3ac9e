use Rattle.std.proofs.Common.{◌≡◌, ◌-◌, false, take}
use Rattle.ppdb_values.specs.Value.{value_of}
use Rattle.ppdb_verify.specs.Views.{raw_file}
use Rattle.ppdb_merge_fits.specs.Walks.{has_unknown}
use Rattle.ppdb_merge_fits.proofs.kinds.any_unknown.Given as goal

abbrev pub invariant-rows : goal.invariant-rows
invariant-rows g l = has_unknown l.marks (take l.row (value_of (raw_file l.file)).customs) ≡ false

abbrev pub decreases-rows : goal.decreases-rows
decreases-rows g l = l.count - l.row
