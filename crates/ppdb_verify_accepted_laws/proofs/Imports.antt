-- The import scopes keep their rules.
use Rattle.std.{proofs.Common.{◌≡◌, ℕ, ◌≤◌, List, refl, ap, arith}, specs.Prelude.{Option, Some, None, unwrap_or}, specs.Option.{option_map}}
use Rattle.ppdb_base.specs.{declared.code.Code.{Code}, First.{IsAccepted}}
use Rattle.ppdb_tables.specs.{declared.rows.ImportRow.{ImportRow}, RawTables.{RawTables, HasShape, count, row_at}}
use Rattle.type_blobs.specs.Imports.{imports as import_grammar}
use Rattle.ppdb_verify_rules.specs.{Rows.{RowFaults, ImportFault}, Rows.RowFaults.{in_import}, Rows.ImportFault.{no_parent, cycle, no_list, invalid_list}}
use Rattle.ppdb_heaps.specs.Heaps.{blob_at}
use Rattle.ppdb_values.specs.{Chains.{NeverEnds, parent_at}, RawFile.{type_limits}, Rules.{HasBlob, HasRowOrNone, IsImport, KeepsImports}}
use Rattle.ppdb_values.proofs.ChainEnds.{chains_end}
use Rattle.ppdb_verify_accepted_laws.proofs.Items.{blob_there, row_named, whole_there}

-- a chain from a row that is not there ends
ends_past : (imports : List ImportRow) (row : ℕ) → row_at imports row ≡ None → NeverEnds (parent_at (λ (scope : ImportRow). scope.parent) imports) row → ⊥
ends_past imports row past never = never 1 (ap (λ (o : Option ImportRow). unwrap_or (option_map (λ scope. scope.parent) o) 0) past)

module _ (raw : RawTables) (accepted : IsAccepted (RowFaults raw)) where
  module _ (row : ℕ) (x : ImportRow) (here : row_at raw.imports row ≡ Some x) where
    no_fault : {column byte : ℕ} {code : Code} → ImportFault raw row x column byte code → ⊥
    no_fault fault = accepted _ _ (in_import here fault)

    parent_within : HasRowOrNone raw 0x35 x.parent
    parent_within = (row_named 0 (count raw 0x35) x.parent (λ none. no_fault (no_parent none))).1

    list_there : HasBlob raw x.imports
    list_there = blob_there raw x.imports (λ none. no_fault (no_list none))

    kept : IsImport raw x
    kept = record {
      parent = parent_within;
      imports = list_there;
      imports_whole = whole_there raw (import_grammar (type_limits raw) (blob_at raw.blobs)) x.imports list_there
          (λ fault invalid. no_fault (invalid_list {fault = fault} invalid));
    }

  within : (row : ℕ) (o : Option ImportRow) → row_at raw.imports row ≡ o → unwrap_or (option_map (λ scope. scope.parent) o) 0 ≤ count raw 0x35
  within row None here = omega arith
  within row (Some x) here = parent_within row x here

  ends : (row : ℕ) (o : Option ImportRow) → row_at raw.imports row ≡ o → NeverEnds (parent_at (λ (scope : ImportRow). scope.parent) raw.imports) row → ⊥
  ends row None here never = ends_past raw.imports row here never
  ends row (Some x) here never = no_fault row x here (cycle never)

  pub imports_kept : HasShape raw → KeepsImports raw
  imports_kept shape = record {
    each = kept;
    chains_end = chains_end (λ scope. scope.parent) raw.imports
        (λ row. let in_table = within row (row_at raw.imports row) refl in let counted = shape.imports in omega (arith, in_table, counted))
        (λ row. ends row (row_at raw.imports row) refl);
  }
