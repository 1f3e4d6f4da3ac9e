-- A file whose rows break no rule (Portable PDB v1.0, "Metadata Tables"; ECMA-335 II.22).
use Rattle.ppdb_values.specs.Names.{IsAccepted, HasShape, count}
use Rattle.std.specs.Prelude.{◌≡◌, ◌≢◌, ◌≤◌}
use Rattle.ppdb_verify_rules.specs.Rows.{RowFaults}
use Rattle.ppdb_values.specs.{RawFile.RawFile, Rules.KeepsRules}

-- The rows break no rule. The counts of rows fit each other: the entry point is no row or one that
-- is there, and there is debug information for each method or for none.
pub record HasGoodRows (raw : RawFile) : Type 0 where
  pub shape : HasShape raw.tables
  pub entry : raw.entry ≤ count raw.tables 0x06
  pub methods : count raw.tables 0x31 ≢ 0 → count raw.tables 0x31 ≡ count raw.tables 0x06
  pub accepted : IsAccepted (RowFaults raw.tables)

-- Such a file keeps the rules.
abbrev pub AcceptedFilesKeepRules : Type 0
AcceptedFilesKeepRules = (raw : RawFile) → HasGoodRows raw → KeepsRules raw
