-- A cursor over a whole blob answers no fault.
use Rattle.std.{proofs.Common.{◌≡◌, ℕ, zero, suc, List, [], ◌∷◌, refl, subst}, specs.Prelude.{Option, Some, None, Result, Ok, Err, IsOk, IsOkAnd}}
use Rattle.ppdb_base.specs.declared.fault.BlobFault.{BlobFault}
use Rattle.blob_grammar.{specs.Grammar.{Grammar}, specs.Reader.{Left, answer_from, rest_of}, specs.Reading.{Reading}, proofs.Unique.{reading-unique}}
use Rattle.ppdb_heaps.specs.{Cursor.{NameLeft}, Heaps.{blob_at}, Names.{names}}
use Rattle.sequence_points.specs.{declared.point.PointLimits.{PointLimits}, Places.{Shown}, Records.{sequence_points}}
use Rattle.type_blobs.specs.{declared.types.TypeLimits.{TypeLimits}, ConstantReading.{ConstantEnd, ConstantLeft, ConstantReading, body, invalid_body}}
use Rattle.type_blobs.specs.{ConstantReading.{invalid_modifier, fault_of, modifier_answer, body_answer, rest_of as constant_rest}, Constants.{constants}}
use Rattle.custom_info.specs.AsyncStepping.{Stepping, async_stepping, entries_of}
use Rattle.ppdb_tables.specs.RawTables.{RawTables}
use Rattle.ppdb_values.specs.{RawFile.{blob, records_of}, Rules.{HasBlob, IsWhole}}
use Rattle.ppdb_verify_accepted_laws.specs.Cursors.{ConstantNeverFaults, MayBeName, MayBePoints, MayBeStepping, NeverFaults}

-- a whole blob is not read with a fault
pub no_fault : {R : Type 0} (g : Grammar R) (content : List ℕ) (items : List R) (fault : Option BlobFault) → IsWhole g content → Reading g content items fault
    → fault ≡ None
no_fault g content items fault whole reading = (reading-unique g content items (records_of g content) fault None reading whole).1

-- the blob that a cell names
pub named : (raw : RawTables) (index : ℕ) (content : List ℕ) (P : List ℕ → Type 0) → HasBlob raw index → blob_at raw.blobs index ≡ Some content
    → P (blob raw index) → P content
named raw index content P has there holds = let same : blob raw index ≡ content = cc in subst P same holds

-- ---- answers

ok_from : {X : Type 0} (items : List X) (fault : Option BlobFault) → fault ≡ None → IsOk (answer_from items fault)
ok_from (x ∷ xs) fault none = refl
ok_from [] None none = refl
ok_from [] (Some fault) none = cc

pub never : {X : Type 0} (left : Left X) → left.fault ≡ None → NeverFaults left
never left none zero = ok_from left.items left.fault none
never left none (suc answers) = never (rest_of left) none answers

constant_ok : (left : ConstantLeft) (end : ConstantEnd) → left.end ≡ end → fault_of end ≡ None → IsOk (modifier_answer left) × IsOk (body_answer left.end)
constant_ok left (body b) is none = rw is (ok_from left.modifiers None refl, refl)
constant_ok left (invalid_body fault) is none = cc
constant_ok left (invalid_modifier fault) is none = cc

constant_never : (left : ConstantLeft) → fault_of left.end ≡ None → ConstantNeverFaults left
constant_never left none zero = constant_ok left left.end refl none
constant_never left none (suc answers) = constant_never (constant_rest left) none answers

-- ---- cursors

pub reads_on : {R : Type 0} (g : Grammar R) (content : List ℕ) (made : Left R) → IsWhole g content → Reading g content made.items made.fault → NeverFaults made
reads_on g content made whole reading = never made (no_fault g content made.items made.fault whole reading)

refused : {R : Type 0} (g : Grammar R) (content : List ℕ) (fault : BlobFault) → IsWhole g content → Reading g content [] (Some fault) → ⊥
refused g content fault whole reading = let same = no_fault g content [] (Some fault) whole reading in cc

pub name_reads_on : (blobs content : List ℕ) (made : Result NameLeft BlobFault) → IsWhole (names blobs) content → MayBeName blobs content made
    → IsOkAnd made (λ c. NeverFaults c.left)
name_reads_on blobs content (Ok c) whole may = never c.left (no_fault (names blobs) content _ c.left.fault whole may.begun.reading)
name_reads_on blobs content (Err fault) whole may = refused (names blobs) content fault whole may.fault

pub points_read_on : (column : ℕ) (limits : PointLimits) (content : List ℕ) (made : Result Shown BlobFault) → IsWhole (sequence_points column limits) content
    → MayBePoints column limits content made → IsOkAnd made (λ c. NeverFaults c.left)
points_read_on column limits content (Ok c) whole may =
    never c.left (no_fault (sequence_points column limits) content may.ok.entries c.left.fault whole may.ok.reading)
points_read_on column limits content (Err fault) whole may = refused (sequence_points column limits) content fault whole may.err

pub stepping_reads_on : (methods : ℕ) (content : List ℕ) (made : Result Stepping BlobFault) → IsWhole (async_stepping methods) content
    → MayBeStepping methods content made → IsOkAnd made (λ c. NeverFaults c.left)
stepping_reads_on methods content (Ok c) whole may =
    never c.left (no_fault (async_stepping methods) content (entries_of c.handler c.left.items) c.left.fault whole may.ok)
stepping_reads_on methods content (Err fault) whole may = refused (async_stepping methods) content fault whole may.err

pub constant_reads_on : (limits : TypeLimits) (content : List ℕ) (made : ConstantLeft) → IsWhole (constants limits) content
    → ConstantReading limits content made → ConstantNeverFaults made
constant_reads_on limits content made whole reads =
    constant_never made (no_fault (constants limits) content made.modifiers (fault_of made.end) whole reads.reading)
