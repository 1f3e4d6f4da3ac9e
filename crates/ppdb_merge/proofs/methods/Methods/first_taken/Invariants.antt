use Rattle.std.proofs.Common.{◌≡◌, ◌≤◌, ℕ, List, drop, length}
use Rattle.ppdb_merge_names.specs.declared.imaged.Imaged.{Imaged}
use Rattle.ppdb_merge.specs.Indexes.{HoldsMethods, least_taken}
use Rattle.ppdb_merge.proofs.methods.Methods.first_taken.Given as goal

abbrev pub invariant-rows : goal.invariant-rows
invariant-rows l = record {
  place : l.place ≤ length l.rows;
  found : (claimed : List (ℕ × Imaged)) → HoldsMethods claimed l.self → l.found ≡ least_taken claimed (drop l.place l.rows);
}

abbrev pub decreases-rows : goal.decreases-rows
decreases-rows l = l.place
