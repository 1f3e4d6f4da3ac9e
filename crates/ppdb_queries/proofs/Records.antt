-- The slots of a record, by its kind.
use Rattle.std.{proofs.Common.{◌≡◌, ℕ, List, [], ◌∷◌, refl, ap, sym, ◌∙◌, Bool, true, false}, specs.Prelude.{Option, None, unwrap_or, if◌then◌else◌}}
use Rattle.std.{specs.Str.{bytes_eq}, proofs.lemmas.Slice.Eq.{bytes_eq-Decides}}
use Rattle.blob_grammar.specs.Reader as reader
use Rattle.blob_grammar.proofs.Readers.{read_from-reads}
use Rattle.custom_info.specs.declared.{kinds.Kind.{Kind}, slots.Slot.{Slot}, kinds.Kind.TheVariants.{Async, Hoisted, TypeDocuments, Free, Unknown}}
use Rattle.custom_info.specs.{Kinds.{kind_of, hoisted_scopes as hoisted_guid}, AsyncStepping.{Entry, catch_handler, await_step}, HoistedScopes.{hoisted_scopes}}
use Rattle.ppdb_tables.specs.{declared.rows.CustomRow.{CustomRow}, RawTables.{RawTables}}
use Rattle.ppdb_values.specs.{Customs.{custom_body, async_body, kind_in}, Parts.{slots_in}, RawFile.{blob, records_of}, Rules.{IsWhole}}
use Rattle.ppdb_queries.specs.Hoisted.{slots_of}

-- ---- kinds

abbrev kind_by : Bool → Bool → Bool → Bool → Kind
kind_by a h t f = if a then Async else if h then Hoisted else if t then TypeDocuments else if f then Free else Unknown

other_kind : (a h t f : Bool) → h ≡ false → kind_by a h t f ≡ Hoisted → ⊥
other_kind true h t f other e = cc
other_kind false true t f other e = cc
other_kind false false true f other e = cc
other_kind false false false true other e = cc
other_kind false false false false other e = cc

not_hoisted : (guid : List ℕ) → bytes_eq guid hoisted_guid ≡ false → kind_of [] guid ≡ Hoisted → ⊥
not_hoisted found other e = other_kind _ (bytes_eq found hoisted_guid) _ _ other e

is_hoisted : (guid : List ℕ) → bytes_eq guid hoisted_guid ≡ true → kind_of [] guid ≡ Hoisted
is_hoisted found same = let e : found ≡ hoisted_guid = (bytes_eq-Decides found hoisted_guid).0 same in rw e refl

-- ---- slots

async_has_none : (entries : List Entry) → slots_in (async_body entries) ≡ None
async_has_none [] = refl
async_has_none (catch_handler handler ∷ entries) = refl
async_has_none (await_step step ∷ entries) = refl

other_has_none : (raw : RawTables) (kind : Kind) (content : List ℕ) → (kind ≡ Hoisted → ⊥) → unwrap_or (slots_in (custom_body raw kind content)) [] ≡ []
other_has_none raw Async content other = ap (λ (o : Option (List Slot)). unwrap_or o []) (async_has_none _)
other_has_none raw Hoisted content other = absurd (other refl)
other_has_none raw TypeDocuments content other = refl
other_has_none raw Free content other = refl
other_has_none raw Unknown content other = refl

-- a record of another kind has no slots
pub slots_none : (raw : RawTables) (row : CustomRow) (found : List ℕ) → found ≡ kind_in raw row → bytes_eq found hoisted_guid ≡ false → slots_of raw row ≡ []
slots_none raw row found there other =
    other_has_none raw (kind_of [] (kind_in raw row)) (blob raw row.value)
    (not_hoisted (kind_in raw row) (ap (λ (g : List ℕ). bytes_eq g hoisted_guid) (sym there) ∙ other))

-- a record with the GUID of hoisted locals is of their kind
pub hoisted_kind : (raw : RawTables) (row : CustomRow) (found : List ℕ) → found ≡ kind_in raw row → bytes_eq found hoisted_guid ≡ true
    → kind_of [] (kind_in raw row) ≡ Hoisted
hoisted_kind raw row found there same = is_hoisted (kind_in raw row) (ap (λ (g : List ℕ). bytes_eq g hoisted_guid) (sym there) ∙ same)

-- a record of hoisted locals has the slots of its blob
pub slots_are : (raw : RawTables) (row : CustomRow) (found : List ℕ) → found ≡ kind_in raw row → bytes_eq found hoisted_guid ≡ true
    → slots_of raw row ≡ records_of hoisted_scopes (blob raw row.value)
slots_are raw row found there same =
    ap (λ (kind : Kind). unwrap_or (slots_in (custom_body raw kind (blob raw row.value))) []) (hoisted_kind raw row found there same)

-- no bytes are no slots
pub nothing_whole : IsWhole hoisted_scopes []
unfolding records_of reader.read_from reader.read_for reader.fields_from reader.fields_for
nothing_whole = read_from-reads hoisted_scopes []

pub nothing_read : records_of hoisted_scopes [] ≡ []
unfolding records_of reader.fields_from reader.fields_for
nothing_read = refl
