use Rattle.std.proofs.Common.{◌≡◌, ◌-◌, [], take, flat_map}
use Rattle.ppdb_tables.specs.RawTables.{numbered}
use Rattle.ppdb_values.specs.Value.{value_of}
use Rattle.ppdb_verify.specs.Views.{raw_file}
use Rattle.ppdb_merge_fits.proofs.OneName.{Leads}
use Rattle.ppdb_merge_fits.proofs.documents.first_name_twice.Given as goal
use Rattle.ppdb_merge_fits.proofs.Parts.{name_twice}

abbrev pub invariant-rows : goal.invariant-rows
invariant-rows g l =
    let documents = (value_of (raw_file l.file)).documents in
    record {
      none : flat_map (name_twice l.map documents) (take l.row (numbered documents)) ≡ [];
      leads : Leads l.map (take l.row (numbered documents)) l.names;
    }

abbrev pub decreases-rows : goal.decreases-rows
decreases-rows g l = l.count - l.row
