-- Names of parts of what a row names.
use Rattle.std.specs.{Prelude.{ℕ, ◌&&◌, not, Bool, false, List, [], ◌∷◌, Option}, Option.{option_map_or}}
use Rattle.ppdb_tables.specs.{declared.rows.ScopeRow.{ScopeRow}, declared.rows.CustomRow.{CustomRow}, RawTables.{RawTables}}
use Rattle.ppdb_maps.specs.Map.{Map, is_dropped}
use Rattle.ppdb_values.specs.{declared.file.MethodValue.{MethodValue}, Names.{cell, Parent}}
use Rattle.ppdb_merge_names.specs.References.{Reference, names, of_signature, is_live_parent, leaves_types}

abbrev pub of_points : Map → ℕ → Option MethodValue → List Reference
of_points m row method = option_map_or (λ method. names (cell 0x31 row 1) 0x06 row ∷ of_signature m row method.signature) method []

abbrev pub is_dropped_scope : Map → Option ScopeRow → Bool
is_dropped_scope m scope = option_map_or (λ scope. is_dropped m scope.method) scope false

abbrev pub is_live_record : Map → RawTables → CustomRow → Parent → Bool
is_live_record m raw row parent = is_live_parent m parent && not (leaves_types m raw row parent)
