-- A walk over the records of a method, one after the other.
use Rattle.std.{proofs.Common.{◌≡◌, ℕ, ◌+◌, ◌<◌, ◌≤◌, List, [], ◌∷◌, length, refl, ap, arith}, specs.Prelude.{Option, Some}}
use Rattle.ppdb_tables.{specs.declared.rows.CustomRow.{CustomRow}, specs.RawTables.{RawTables, row_at}, proofs.NumberedRows.{row_there}}
use Rattle.sequence_points.specs.Written.{first_of}
use Rattle.ppdb_queries.specs.{Hoisted.{slots_from, slots_of, hoisted_in, hoisted_left, hoisted_at}, declared.run.Run.{Run}, Runs.{rows_in, customs_at}}
use Rattle.ppdb_queries.{specs.declared.hoisted.Hoisted.{Hoisted}, proofs.Views.{run_step}}

-- where there is no next item, nothing is left
pub none_left : {X : Type 0} (xs : List X) (next : Option X) → next ≡ first_of xs → ((x : X) → next ≡ Some x → ⊥) → xs ≡ []
none_left [] next e never = refl
none_left (x ∷ xs) next e never = absurd (never x e)

-- the slots of the next record come before those of the records after it
pub record_next : (raw : RawTables) (x first end : ℕ) (current new : List Hoisted) → 1 ≤ first → first < end → end ≤ length raw.customs + 1 → current ≡ []
    → ((row : CustomRow) → row_at raw.customs first ≡ Some row → new ≡ slots_from x first 0 (slots_of raw row))
    → (hoisted_left raw x new (first + 1) end).items ≡ (hoisted_left raw x current first end).items
record_next raw x first end current new from forward last none is =
    let row = row_there raw.customs first from (omega arith) in
    let step = run_step raw.customs first end row.0 row.1 forward in
    rw (none, is row.0 row.1, step) refl

-- at the start all slots of all records of the method are left
pub hoisted_all : (raw : RawTables) (m x : ℕ) (current : List Hoisted) (run : Run) → current ≡ [] → rows_in run raw.customs ≡ customs_at raw 0x06 m
    → (hoisted_left raw x current run.first run.end).items ≡ hoisted_at raw m x
hoisted_all raw m x current run none all = rw none (ap (hoisted_in raw x) all)
