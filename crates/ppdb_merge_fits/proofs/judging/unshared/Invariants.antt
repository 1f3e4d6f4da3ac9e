use Rattle.std.proofs.Common.{◌≡◌, take}
use Rattle.ppdb_merge_fits.specs.Rows.{unshared}
use Rattle.ppdb_merge_fits.proofs.judging.unshared.Given as goal

abbrev pub invariant-loop-row : goal.invariant-loop-row
invariant-loop-row l = l.all.items ≡ unshared l.map (take l.row-index l.rows)
