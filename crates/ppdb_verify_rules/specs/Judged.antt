-- How far the rows are judged.
use Rattle.std.specs.Prelude.{ℕ, [], ◌∷◌}
use Rattle.ppdb_base.specs.{declared.fault.Fault.Fault, First.{IsJudgedTo, IsFirst}}
use Rattle.ppdb_tables.specs.RawTables.{RawTables}
use Rattle.ppdb_verify_rules.specs.Rows.{RowFaults}

-- nothing is at fault before the table, the row, the cell
abbrev pub ToTable : RawTables → ℕ → Type 0
ToTable raw table = IsJudgedTo (RowFaults raw) (5 ∷ table ∷ [])

abbrev pub ToRow : RawTables → ℕ → ℕ → Type 0
ToRow raw table row = IsJudgedTo (RowFaults raw) (5 ∷ table ∷ row ∷ [])

abbrev pub ToCell : RawTables → ℕ → ℕ → ℕ → Type 0
ToCell raw table row column = IsJudgedTo (RowFaults raw) (5 ∷ table ∷ row ∷ column ∷ [])

-- the first place of the rows that is at fault
abbrev pub IsFirstOf : RawTables → Fault → Type 0
IsFirstOf raw = IsFirst (RowFaults raw)
