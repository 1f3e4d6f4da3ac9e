-- A blob has one reading, and the plain reader's is it.
use Rattle.std.{proofs.Common.{◌≡◌, ℕ, List, [], ◌∷◌, map, Option, Some, None, refl, ap, sym, ◌∙◌}, specs.List.{filter_map}}
use Rattle.ppdb_base.specs.declared.fault.BlobFault.{BlobFault}
use Rattle.blob_grammar.{specs.Grammar.{Value, Field, Grammar, cut}, specs.Reading.{Reading, IsLongestPrefix}, proofs.PrefixFields.{longest-prefix_of}}
use Rattle.blob_grammar.proofs.PrefixFields.{records_are_cut}
use Rattle.ppdb_heaps.specs.Names.{IsName, names, joined, name_of}
use Rattle.sequence_points.specs.{declared.point.Point.{Point}, Records.{Entry as PointEntry, sequence_points}, Points.{PointsReading, points_after, signature_of}}
use Rattle.type_blobs.specs.{declared.types.Modifier.{Modifier}, Constants.{constants, ConstantBody, body_of}, ConstantReading.{ConstantReading, body}}
use Rattle.custom_info.specs.{declared.stepping.AsyncStep.{AsyncStep}, AsyncStepping.{async_stepping, Entry, await_step, entries_of}}
use Rattle.ppdb_tables.specs.RawTables.{RawTables, count}
use Rattle.ppdb_values.specs.{declared.custom.CustomBody.TheVariants.{Async}, RawFile.{records_of, begun_of, point_limits, type_limits}, Documents.{points_in}}
use Rattle.ppdb_values.specs.{Documents.{signature_in}, Customs.{step_of, async_body}}

-- the records of a reading
pub records_are : {R : Type 0} (g : Grammar R) (blob : List ℕ) (records : List R) (fault : Option BlobFault) → Reading g blob records fault
    → records_of g blob ≡ records
unfolding records_of
records_are g blob records fault h = sym (records_are_cut g blob records fault h)

-- the values of the record that has begun where the longest valid prefix ends
pub begun_is : {R : Type 0} (g : Grammar R) (blob : List ℕ) (fields : List Field) (after : List ℕ) → IsLongestPrefix g blob fields after
    → begun_of g blob ≡ (cut g fields).begun
unfolding begun_of
begun_is g blob fields after prefix = sym (ap (λ (fs : List Field). (cut g fs).begun) (longest-prefix_of g blob fields after prefix))

pub name_is : (raw : RawTables) (content name : List ℕ) → IsName raw.blobs content name → name_of raw.blobs content ≡ name
unfolding name_of records_of
name_is raw content name h = ap joined (records_are (names raw.blobs) content h.parts None h.whole) ∙ sym h.text

pub points_are : (raw : RawTables) (column signature : ℕ) (content : List ℕ) (points : List Point) (fault : Option BlobFault)
    → PointsReading column (point_limits raw) content signature points fault → points_in raw column content ≡ points
points_are raw column signature content points fault h =
    ap (λ (entries : List PointEntry). points_after [] entries) (records_are (sequence_points column (point_limits raw)) content h.entries fault h.reading)
    ∙ sym h.points_are

pub signature_is : (raw : RawTables) (column signature : ℕ) (content : List ℕ) (points : List Point) (fault : Option BlobFault)
    → PointsReading column (point_limits raw) content signature points fault → signature_in raw column content ≡ Some signature
signature_is raw column signature content points fault h =
    ap (λ (entries : List PointEntry). signature_of entries) (records_are (sequence_points column (point_limits raw)) content h.entries fault h.reading)
    ∙ h.signature_is

steps_are : (steps : List AsyncStep) → filter_map step_of (map await_step steps) ≡ steps
steps_are [] = refl
steps_are (step ∷ steps) = ap (λ (rest : List AsyncStep). step ∷ rest) (steps_are steps)

pub stepping_is : (raw : RawTables) (content : List ℕ) (handler : Option ℕ) (steps : List AsyncStep) (fault : Option BlobFault)
    → Reading (async_stepping (count raw 0x06)) content (entries_of handler steps) fault
    → async_body (records_of (async_stepping (count raw 0x06)) content) ≡ Async handler steps
stepping_is raw content handler steps fault h =
    ap (λ (entries : List Entry). async_body entries) (records_are (async_stepping (count raw 0x06)) content (entries_of handler steps) fault h)
    ∙ ap (λ (all : List AsyncStep). Async handler all) (steps_are steps)

pub modifiers_are : (raw : RawTables) (content : List ℕ) (modifiers : List Modifier) (value : ConstantBody)
    → ConstantReading (type_limits raw) content (record { modifiers = modifiers; end = body value })
    → records_of (constants (type_limits raw)) content ≡ modifiers
modifiers_are raw content modifiers value h = records_are (constants (type_limits raw)) content modifiers None h.reading

pub body_is : (raw : RawTables) (content : List ℕ) (modifiers : List Modifier) (value : ConstantBody)
    → ConstantReading (type_limits raw) content (record { modifiers = modifiers; end = body value })
    → body_of (begun_of (constants (type_limits raw)) content) ≡ Some value
body_is raw content modifiers value h =
    ap (λ (values : List Value). body_of values) (begun_is (constants (type_limits raw)) content h.reading.fields h.reading.after h.reading.prefix) ∙ h.end
