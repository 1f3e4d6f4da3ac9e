-- The rules of the rows stand in the tables 30 to 37.
use Rattle.std.proofs.Common.{◌≡◌, ℕ, ◌+◌, ◌≤◌, ◌⊎◌, [], ◌∷◌, refl, sym, subst, inl, inr, arith}
use Rattle.ppdb_base.specs.{declared.code.Code.{Code}, declared.fault.Place.{Place}, Place.{ComesBefore, numbers}, First.{IsAccepted}}
use Rattle.ppdb_tables.specs.RawTables.{RawTables, HasShape, count}
use Rattle.ppdb_verify_rules.specs.{Judged.{ToTable, ToRow}, Rows.{RowFaults}, Rows.RowFaults.{in_document}}
use Rattle.ppdb_verify_rules.proofs.{DocumentFaults.{past_table as past_documents}, MethodDebugFaults.{past_table as past_methods}}
use Rattle.ppdb_verify_rules.proofs.{ScopeFaults.{past_table as past_scopes}, VariableFaults.{past_table as past_variables}}
use Rattle.ppdb_verify_rules.proofs.{ConstantFaults.{past_table as past_constants}, ImportFaults.{past_table as past_imports}}
use Rattle.ppdb_verify_rules.proofs.{MachineFaults.{past_table as past_machines}, CustomFaults.{past_table as past_customs}}

-- where a rule of the rows may be broken
record IsRowPlace (at : Place) : Type 0 where
  part : at.part ≡ 5
  from : 0x30 ≤ at.table
  to : at.table ≤ 0x37

row_place : (raw : RawTables) (code : Code) (at : Place) → RowFaults raw code at → IsRowPlace at
row_place raw _ _ (in_document _ _) = record { part = refl; from = omega arith; to = omega arith }
row_place raw _ _ _ = record { part = refl; from = omega arith; to = omega arith }

-- before the first table nothing is bad
pub from_first : (raw : RawTables) → ToTable raw 0x30
from_first raw = λ code at invalid before. let p = row_place raw code at invalid in early code at p.part p.from before
  where
    early : (code : Code) (at : Place) → at.part ≡ 5 → 0x30 ≤ at.table → ComesBefore (numbers code at) (5 ∷ 0x30 ∷ []) → ⊥
    early code at part from before = grind arith

-- past the last table nothing is
pub past_last : (raw : RawTables) → ToTable raw 0x38 → IsAccepted (RowFaults raw)
past_last raw judged code at invalid =
    let p = row_place raw code at invalid in
    judged code at invalid (inr (p.part, inl (let t = p.to in omega (arith, t))))

-- a table past its last row is judged
module _ (raw : RawTables) (shape : HasShape raw) where
  abbrev IsPast : ℕ → Type 0
  IsPast table = ToRow raw table (count raw table + 1) → ToTable raw (table + 1)

  one_of : (table : ℕ) → 0x30 ≤ table → table ≤ 0x37
      → (table ≡ 0x30) ⊎ ((table ≡ 0x31) ⊎ ((table ≡ 0x32) ⊎ ((table ≡ 0x33) ⊎ ((table ≡ 0x34) ⊎ ((table ≡ 0x35) ⊎ ((table ≡ 0x36) ⊎ (table ≡ 0x37)))))))
  one_of table from to = grind arith

  past_of : (table : ℕ) → (table ≡ 0x30) ⊎ ((table ≡ 0x31)
      ⊎ ((table ≡ 0x32) ⊎ ((table ≡ 0x33) ⊎ ((table ≡ 0x34) ⊎ ((table ≡ 0x35) ⊎ ((table ≡ 0x36) ⊎ (table ≡ 0x37)))))))
      → IsPast table
  past_of table (inl e) = subst IsPast (sym e) (past_documents raw (count raw 0x30 + 1) (omega (arith, shape.documents)))
  past_of table (inr (inl e)) = subst IsPast (sym e) (past_methods raw (count raw 0x31 + 1) (omega (arith, shape.methods)))
  past_of table (inr (inr (inl e))) = subst IsPast (sym e) (past_scopes raw (count raw 0x32 + 1) (omega (arith, shape.scopes)))
  past_of table (inr (inr (inr (inl e)))) = subst IsPast (sym e) (past_variables raw (count raw 0x33 + 1) (omega (arith, shape.variables)))
  past_of table (inr (inr (inr (inr (inl e))))) = subst IsPast (sym e) (past_constants raw (count raw 0x34 + 1) (omega (arith, shape.constants)))
  past_of table (inr (inr (inr (inr (inr (inl e)))))) = subst IsPast (sym e) (past_imports raw (count raw 0x35 + 1) (omega (arith, shape.imports)))
  past_of table (inr (inr (inr (inr (inr (inr (inl e))))))) = subst IsPast (sym e) (past_machines raw (count raw 0x36 + 1) (omega (arith, shape.machines)))
  past_of table (inr (inr (inr (inr (inr (inr (inr e))))))) = subst IsPast (sym e) (past_customs raw (count raw 0x37 + 1) (omega (arith, shape.customs)))

  pub past_rows : (table : ℕ) → 0x30 ≤ table → table ≤ 0x37 → IsPast table
  past_rows table from to = past_of table (one_of table from to)
