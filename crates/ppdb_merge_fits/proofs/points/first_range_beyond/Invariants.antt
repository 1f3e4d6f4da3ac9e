use Rattle.std.proofs.Common.{◌≡◌, ◌-◌, [], take, flat_map}
use Rattle.ppdb_values.specs.Value.{value_of}
use Rattle.ppdb_verify.specs.Views.{raw_file}
use Rattle.ppdb_merge_fits.specs.Offsets.{scope_beyond}
use Rattle.ppdb_merge_fits.proofs.points.first_range_beyond.Given as goal

abbrev pub invariant-rows : goal.invariant-rows
invariant-rows g l = flat_map (scope_beyond l.map) (take l.row (value_of (raw_file l.file)).scopes) ≡ []

abbrev pub decreases-rows : goal.decreases-rows
decreases-rows g l = l.count - l.row
