-- A blob has one fault, or none.
use Rattle.std.proofs.Common.{◌≡◌, ℕ, zero, suc, ◌<◌, ◌⊎◌, List, [], ◌∷◌, length, refl, Option, Some, None, sym, subst, ◌∙◌, ap, arith, inl, inr}
use Rattle.ppdb_base.specs.{declared.fault.BlobFault.{BlobFault}, Place.{number_of}}
use Rattle.blob_grammar.{specs.Grammar.{Grammar}, proofs.Unique.{reading-unique}, specs.Places.{HasEnd}}
use Rattle.ppdb_heaps.specs.{Heaps.{blob_at, guid_at}, Names.{names}}
use Rattle.ppdb_tables.specs.{declared.rows.CustomRow.{CustomRow}, RawTables.{RawTables, count}}
use Rattle.custom_info.specs.declared.kinds.{Kind.{Kind}, Kind.TheVariants.{Async, Hoisted, TypeDocuments, Free, Unknown}}
use Rattle.custom_info.specs.{AsyncStepping.{async_stepping}, HoistedScopes.{hoisted_scopes}, TypeDocuments.{type_documents}, Kinds.{kind_of}}
use Rattle.ppdb_verify_rules.specs.{Blobs.{HasFault, IsNil, NamesNoGuid}, Customs.{HasInvalidValue, IsOfKind, ReadsValue}, Names.{SpellsName}}

-- two readings of one content have one end
pub one_reading : {R : Type 0} {g : Grammar R} {content : List ℕ} {a b : Option BlobFault} → HasEnd g content a → HasEnd g content b → a ≡ b
one_reading {g} {content} {a} {b} x y = (reading-unique g content x.0 y.0 a b x.1 y.1).1

-- two equal faults: neither comes before the other
pub equal_faults : (a b : BlobFault) → b ≡ a → (b.byte < a.byte) ⊎ ((b.byte ≡ a.byte) × (number_of b.code < number_of a.code)) → ⊥
equal_faults a b same lower =
    let byte : b.byte ≡ a.byte = ap (λ (f : BlobFault). f.byte) same in
    let code : number_of b.code ≡ number_of a.code = ap (λ (f : BlobFault). number_of f.code) same in
    elim lower [ inl l ↦ omega (arith, l, byte) | inr l ↦ omega (arith, l.1, code) ]

pub one_fault : {R : Type 0} {g : Grammar R} {blobs : List ℕ} {index : ℕ} {a b : BlobFault} → HasFault g blobs index a → HasFault g blobs index b
    → (b.byte < a.byte) ⊎ ((b.byte ≡ a.byte) × (number_of b.code < number_of a.code)) → ⊥
one_fault {g} {a} {b} h k =
    let same : k.content ≡ h.content = cc (h.there, k.there) in
    let e : Some b ≡ Some a = one_reading {g = g} {content = h.content} (subst (λ (c : List ℕ). HasEnd g c (Some b)) same k.reads) h.reads in
    equal_faults a b cc

-- a blob that reads whole has no fault
pub not_whole : {R : Type 0} {g : Grammar R} {blobs : List ℕ} {index : ℕ} {fault : BlobFault} (content : List ℕ) → blob_at blobs index ≡ Some content
    → HasEnd g content None → HasFault g blobs index fault → ⊥
not_whole {g} {fault} content there whole h =
    let same : h.content ≡ content = cc (h.there, there) in
    let e : None ≡ Some fault = one_reading {g = g} {content = content} whole (subst (λ (c : List ℕ). HasEnd g c (Some fault)) same h.reads) in
    cc

pub not_there : {R : Type 0} {g : Grammar R} {blobs : List ℕ} {index : ℕ} {fault : BlobFault} → HasFault g blobs index fault → blob_at blobs index ≡ None → ⊥
not_there h none = let there = h.there in cc

-- the same for values of custom records
one_value : (raw : RawTables) (kind : Kind) (content : List ℕ) (a b : Option BlobFault) → ReadsValue raw kind content a → ReadsValue raw kind content b → a ≡ b
one_value raw Async content a b x y = one_reading {g = async_stepping (count raw 0x06)} {content = content} x y
one_value raw Hoisted content a b x y = one_reading {g = hoisted_scopes} {content = content} x y
one_value raw TypeDocuments content a b x y = one_reading {g = type_documents (count raw 0x30)} {content = content} x y
one_value raw Free content a b x y = x ∙ sym y
one_value raw Unknown content a b x y = x ∙ sym y

pub one_kind : (guids : List ℕ) (number : ℕ) (a b : Kind) → IsOfKind guids number a → IsOfKind guids number b → a ≡ b
one_kind guids number a b x y =
    let same : x.guid ≡ y.guid = cc (x.there, y.there) in
    sym x.kind_is ∙ (ap (λ (g : List ℕ). kind_of [] g) same ∙ y.kind_is)

pub one_invalid_value : {raw : RawTables} {custom : CustomRow} {a b : BlobFault} → HasInvalidValue raw custom a → HasInvalidValue raw custom b
    → (b.byte < a.byte) ⊎ ((b.byte ≡ a.byte) × (number_of b.code < number_of a.code)) → ⊥
one_invalid_value {raw} {custom} {a} {b} h k =
    let same : k.content ≡ h.content = cc (h.there, k.there) in
    let kinds : k.kind ≡ h.kind = one_kind raw.guids custom.kind k.kind h.kind k.of_kind h.of_kind in
    let e : Some b ≡ Some a = one_value raw h.kind h.content (Some b) (Some a)
    (subst (λ (n : Kind). ReadsValue raw n h.content (Some b)) kinds (subst (λ (c : List ℕ). ReadsValue raw k.kind c (Some b)) same k.reads)) h.reads in
    equal_faults a b cc

pub no_invalid_value : {raw : RawTables} {custom : CustomRow} (kind : Kind) (content : List ℕ) → IsOfKind raw.guids custom.kind kind
    → blob_at raw.blobs custom.value ≡ Some content → ReadsValue raw kind content None → (fault : BlobFault) → HasInvalidValue raw custom fault → ⊥
no_invalid_value {raw} {custom} kind content of there whole fault h =
    let same : h.content ≡ content = cc (h.there, there) in
    let kinds : h.kind ≡ kind = one_kind raw.guids custom.kind h.kind kind h.of_kind of in
    let e : None ≡ Some fault = one_value raw kind content None (Some fault) whole (subst (λ (n : Kind). ReadsValue raw n content (Some fault)) kinds
    (subst (λ (c : List ℕ). ReadsValue raw h.kind c (Some fault)) same h.reads)) in
    cc

pub value_not_there : {raw : RawTables} {custom : CustomRow} {fault : BlobFault} → HasInvalidValue raw custom fault → blob_at raw.blobs custom.value ≡ None → ⊥
value_not_there h none = let there = h.there in cc

-- and for names: a whole name has no fault
pub name_whole : {blobs : List ℕ} {index : ℕ} {name : List ℕ} {fault : BlobFault} → SpellsName blobs index name → HasFault (names blobs) blobs index fault → ⊥
name_whole {blobs} s h = not_whole {g = names blobs} s.0 s.1 (s.2.parts, s.2.whole) h

-- a blob that is there
pub value_there : (blobs content : List ℕ) (index : ℕ) → blob_at blobs index ≡ Some content → blob_at blobs index ≡ None → ⊥
value_there blobs content index there none = cc

-- a GUID that is not there, and one that is
pub no_guid : (guids : List ℕ) (number : ℕ) → guid_at guids number ≡ None → NamesNoGuid 1 guids number
no_guid guids zero none = inl (omega arith)
no_guid guids (suc i) none = inr ((λ e. omega (arith, e)), none)

pub guid_there : (guids : List ℕ) (number : ℕ) (kind : Kind) → IsOfKind guids number kind → NamesNoGuid 1 guids number → ⊥
unfolding guid_at
guid_there guids zero kind of missing = let there = of.there in cc
guid_there guids (suc i) kind of (inl low) = omega (arith, low)
guid_there guids (suc i) kind of (inr none) = let there = of.there in let gone = none.1 in cc

-- no bytes
pub no_length : (bytes : List ℕ) → length bytes ≡ 0 → bytes ≡ []
no_length [] e = refl
no_length (b ∷ bytes) e = absurd (omega (arith, e))

-- a blob with bytes is not nil
pub not_nil : (blobs content : List ℕ) (index : ℕ) → blob_at blobs index ≡ Some content → (length content ≡ 0 → ⊥) → IsNil blobs index → ⊥
not_nil blobs content index there some nil =
    let same : content ≡ [] = cc (there, nil) in
    some (ap length same)
