use Rattle.std.{proofs.Common.{◌≡◌, length, All}, specs.List.{flat_map}}
use Rattle.ppdb_tables.specs.RawTables.{numbered}
use Rattle.ppdb_verify.specs.Views.{raw_file}
use Rattle.ppdb_values_reading.specs.Scopes.{HasLists}
use Rattle.ppdb_merge_names.{specs.References.{of_constant}, specs.Lists.{of_scope_constants}, proofs.Going.{Leads}}
use Rattle.ppdb_merge_names.proofs.constants.add_constants.Given as goal

abbrev pub invariant-scopes : goal.invariant-scopes
invariant-scopes g l =
    let raw = (raw_file l.file).tables in
    record {
      within : All (HasLists raw) l.scopes;
      same_map : l.imager.map ≡ l.fn.imager.map;
      leads : Leads l.fn.imager (flat_map (of_constant l.fn.imager.map raw) (numbered raw.constants)) l.imager
          (flat_map (of_scope_constants l.fn.imager.map raw) l.scopes);
    }

abbrev pub decreases-scopes : goal.decreases-scopes
decreases-scopes g l = length l.scopes
