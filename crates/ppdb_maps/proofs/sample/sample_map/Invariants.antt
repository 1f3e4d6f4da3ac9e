use Rattle.std.{proofs.Common.{◌≡◌, map}, specs.List.{range_with_len}}
use Rattle.ppdb_maps.specs.Sample.{sample_method}
use Rattle.ppdb_maps.proofs.sample.sample_map.Given as goal
use Rattle.ppdb_maps.proofs.Parts.{sample_row}

abbrev pub invariant-loop-before : goal.invariant-loop-before
invariant-loop-before l = record {
  rows : l.rows.items ≡ map (sample_row l.n) (range_with_len 1 l.before);
  methods : l.methods.items ≡ map sample_method (range_with_len 1 l.before);
}
