-- What a cell names is there where it is not at fault, and what blobs hold is whole.
use Rattle.std.{proofs.Common.{◌≡◌, ℕ, ◌≤◌, List, [], refl, sym, subst, inl, inr, true}, specs.Prelude.{Option, Some, None, unwrap_or, is_some}}
use Rattle.std.proofs.lemmas.Bool.{cases_eq, cases_lt}
use Rattle.ppdb_base.specs.declared.fault.BlobFault.{BlobFault}
use Rattle.blob_grammar.{specs.Grammar.{Grammar}, specs.Reader.{read_from}, specs.Reading.{Reading}, proofs.PrefixFields.{records_read}}
use Rattle.blob_grammar.{proofs.Readers.{read_from-reads}, specs.Places.{HasEnd}}
use Rattle.ppdb_heaps.specs.Heaps.{text_at, blob_at, guid_at}
use Rattle.ppdb_tables.specs.RawTables.{RawTables}
use Rattle.ppdb_verify_rules.specs.{Blobs.{HasFault, NamesNoGuid}, Earlier.{NamesNoRow}}
use Rattle.ppdb_values.specs.{RawFile.{blob, records_of}, Rules.{HasText, HasBlob, HasGuidOrNone, IsWhole}}

-- ---- items

pub is_there : {X : Type 0} (o : Option X) (d : X) → (o ≡ None → ⊥) → o ≡ Some (unwrap_or o d)
is_there None d none = absurd (none refl)
is_there (Some x) d none = refl

some_there : {X : Type 0} (o : Option X) → (o ≡ None → ⊥) → is_some o ≡ true
some_there None none = absurd (none refl)
some_there (Some x) none = refl

pub text_there : (raw : RawTables) (index : ℕ) → (text_at raw.texts index ≡ None → ⊥) → HasText raw index
text_there raw index some = is_there (text_at raw.texts index) [] some

pub blob_there : (raw : RawTables) (index : ℕ) → (blob_at raw.blobs index ≡ None → ⊥) → HasBlob raw index
blob_there raw index some = is_there (blob_at raw.blobs index) [] some

pub guid_or_none : (raw : RawTables) (number : ℕ) → (NamesNoGuid 0 raw.guids number → ⊥) → HasGuidOrNone raw number
guid_or_none raw number some = elim (cases_eq number 0) [
  | inl zero ↦ inl zero
  | inr apart ↦ inr (some_there (guid_at raw.guids number) (λ none. some (inr (apart, none))))
]

-- a number that names a row lies between the least and the last
pub row_named : (least rows number : ℕ) → (NamesNoRow least rows number → ⊥) → (least ≤ number) × (number ≤ rows)
row_named least rows number some = (
  elim (cases_lt number least) [ inl under ↦ absurd (some (inl under)) | inr from ↦ from ],
  elim (cases_lt rows number) [ inl over ↦ absurd (some (inr over)) | inr within ↦ within ],
)

-- ---- blobs

by_fault : {R : Type 0} (g : Grammar R) (content : List ℕ) (o : Option BlobFault) → Reading g content (records_of g content) o
    → ((fault : BlobFault) → HasEnd g content (Some fault) → ⊥) → IsWhole g content
by_fault g content None reading none = reading
by_fault g content (Some fault) reading none = absurd (none fault (records_of g content, reading))

-- a blob that has no fault is whole
pub whole : {R : Type 0} (g : Grammar R) (content : List ℕ) → ((fault : BlobFault) → HasEnd g content (Some fault) → ⊥) → IsWhole g content
unfolding records_of
whole {R = R} g content none =
    let left = read_from g [] [] 0 content in
    let read : Reading g content (records_of g content) left.fault
    = subst (λ (records : List R). Reading g content records left.fault) (sym (records_read g content)) (read_from-reads g content) in
    by_fault g content left.fault read none

-- the same of the blob that a cell names
pub whole_there : {R : Type 0} (raw : RawTables) (g : Grammar R) (index : ℕ) → HasBlob raw index
    → ((fault : BlobFault) → HasFault g raw.blobs index fault → ⊥) → IsWhole g (blob raw index)
whole_there raw g index there none =
    whole g (blob raw index) (λ fault reads. none fault (record { content = blob raw index; there = there; reads = reads }))
