-- The custom records keep their rules.
use Rattle.std.{proofs.Common.{◌≡◌, ℕ, ◌/◌, ◌%◌, ◌<◌, ◌≤◌, [], refl, sym, ◌∙◌, subst, inl, inr, arith, slice_get}, specs.Prelude.{Option, Some, None, unwrap_or}}
use Rattle.std.{specs.Option.{option_map}, proofs.lemmas.Bool.{cases_eq, cases_lt}, proofs.lemmas.Option.{slice_get_cases}}
use Rattle.ppdb_base.specs.{declared.code.Code.{Code}, declared.fault.BlobFault.{BlobFault}, First.{IsAccepted}}
use Rattle.custom_info.specs.declared.kinds.{Kind.{Kind}, Kind.TheVariants.{Async, Hoisted, TypeDocuments, Free, Unknown}}
use Rattle.custom_info.specs.{AsyncStepping.{async_stepping}, HoistedScopes.{hoisted_scopes}, TypeDocuments.{type_documents}, Kinds.{kind_of}}
use Rattle.ppdb_heaps.specs.Heaps.{guid_at}
use Rattle.ppdb_tables.specs.{declared.parent.Parent.{Parent}, declared.rows.CustomRow.{CustomRow}, RawTables.{RawTables, count, row_at}}
use Rattle.row_layout.specs.Columns.{parent_tables}
use Rattle.ppdb_verify_rules.specs.{Customs.{IsOfKind, ReadsValue, parent_table}, Rows.{RowFaults, CustomFault}, Rows.RowFaults.{in_custom}}
use Rattle.ppdb_verify_rules.{specs.Rows.CustomFault.{no_parent, no_tag, out_of_order, no_kind, other_parent, no_value, invalid_value}, proofs.BlobFaults.{no_guid}}
use Rattle.ppdb_values.specs.{Customs.{kind_in, parent_of}, RawFile.{blob}, Rules.{HasBlob, HasRow, IsCustom, IsWholeOfKind, KeepsCustoms, StandsOn}}
use Rattle.ppdb_verify_accepted_laws.proofs.{Items.{blob_there, is_there, row_named, whole}, Orders.{sorted_by}}

-- ---- the parent that a coded index names

abbrev with_row : ℕ → Option ℕ → Option Parent
with_row row o = option_map (λ (table : ℕ). record { table = table; row = row }) o

-- a tag has a table, and the parent is the row of that table
record IsParent (o : Option ℕ) (row : ℕ) : Type 0 where
  there : with_row row o ≡ Some (unwrap_or (with_row row o) (record { table = 0; row = 0 }))
  table_is : o ≡ Some (unwrap_or (with_row row o) (record { table = 0; row = 0 })).table
  row_is : (unwrap_or (with_row row o) (record { table = 0; row = 0 })).row ≡ row

parent_is : (o : Option ℕ) (row : ℕ) → (o ≡ None → ⊥) → IsParent o row
parent_is None row none = absurd (none refl)
parent_is (Some table) row none = record { there = refl; table_is = refl; row_is = refl }

tag_there : (tag : ℕ) → (26 < tag → ⊥) → slice_get parent_tables tag ≡ None → ⊥
tag_there tag low none = elim (slice_get_cases parent_tables tag).1 [
  | inl x ↦ let some = x.2 in cc
  | inr past ↦ let out : 27 ≤ tag = past.0 in low (omega (arith, out))
]

one_table : (a b : ℕ) → Some a ≡ Some b → a ≡ b
one_table a b same = cc

module _ (raw : RawTables) (accepted : IsAccepted (RowFaults raw)) where
  module _ (row : ℕ) (x : CustomRow) (here : row_at raw.customs row ≡ Some x) where
    no_fault : {column byte : ℕ} {code : Code} → CustomFault raw row x column byte code → ⊥
    no_fault fault = accepted _ _ (in_custom here fault)

    parent : IsParent (slice_get parent_tables (x.parent % 32)) (x.parent / 32)
    parent = parent_is (slice_get parent_tables (x.parent % 32)) (x.parent / 32) (tag_there (x.parent % 32) (λ high. no_fault (no_tag high)))

    parent_there : HasRow raw (parent_of x.parent).table (parent_of x.parent).row
    parent_there = subst (λ (number : ℕ). HasRow raw (parent_of x.parent).table number) (sym parent.row_is)
        (row_named 1 (count raw (parent_of x.parent).table) (x.parent / 32)
        (λ none. no_fault (no_parent (record { table = (parent_of x.parent).table; tagged = parent.table_is; no_row = none }))))

    kind_there : guid_at raw.guids x.kind ≡ Some (kind_in raw x)
    kind_there = is_there (guid_at raw.guids x.kind) [] (λ none. no_fault (no_kind (no_guid raw.guids x.kind none)))

    of_kind : (kind : Kind) → kind_of [] (kind_in raw x) ≡ kind → IsOfKind raw.guids x.kind kind
    of_kind kind is = record { guid = kind_in raw x; there = kind_there; kind_is = is }

    on_table : (kind : Kind) (table : ℕ) → kind_of [] (kind_in raw x) ≡ kind → parent_table kind ≡ Some table → (parent_of x.parent).table ≡ table
    on_table kind table is has = elim (cases_eq (parent_of x.parent).table table) [
      | inl same ↦ same
      | inr apart ↦ absurd (no_fault (other_parent (record {
        kind = kind;
        of_kind = of_kind kind is;
        table = table;
        has_table = has;
        other = λ named. apart (one_table (parent_of x.parent).table table (sym parent.table_is ∙ named));
      })))
    ]

    stands_on : (kind : Kind) → kind_of [] (kind_in raw x) ≡ kind → StandsOn kind (parent_of x.parent).table
    stands_on Async is = on_table Async 0x06 is refl
    stands_on Hoisted is = on_table Hoisted 0x06 is refl
    stands_on TypeDocuments is = on_table TypeDocuments 0x02 is refl
    stands_on Free is = tt
    stands_on Unknown is = tt

    value_there : HasBlob raw x.value
    value_there = blob_there raw x.value (λ none. no_fault (no_value none))

    value_good : (kind : Kind) → kind_of [] (kind_in raw x) ≡ kind → (fault : BlobFault) → ReadsValue raw kind (blob raw x.value) (Some fault) → ⊥
    value_good kind is fault reads = no_fault (invalid_value {fault = fault} (record {
      kind = kind;
      of_kind = of_kind kind is;
      content = blob raw x.value;
      there = value_there;
      reads = reads;
    }))

    value_whole : (kind : Kind) → kind_of [] (kind_in raw x) ≡ kind → IsWholeOfKind raw kind (blob raw x.value)
    value_whole Async is = whole (async_stepping (count raw 0x06)) (blob raw x.value) (value_good Async is)
    value_whole Hoisted is = whole hoisted_scopes (blob raw x.value) (value_good Hoisted is)
    value_whole TypeDocuments is = whole (type_documents (count raw 0x30)) (blob raw x.value) (value_good TypeDocuments is)
    value_whole Free is = tt
    value_whole Unknown is = tt

    kept : IsCustom raw x
    kept = record {
      tag = parent.there;
      parent = parent_there;
      kind = kind_there;
      stands_on = stands_on (kind_of [] (kind_in raw x)) refl;
      value = value_there;
      value_whole = value_whole (kind_of [] (kind_in raw x)) refl;
    }

  parent_up : (a b : ℕ) (x y : CustomRow) → row_at raw.customs a ≡ Some x → row_at raw.customs b ≡ Some y → a < b → x.parent ≤ y.parent
  parent_up a b x y hx hy less = elim (cases_lt y.parent x.parent) [
    | inl falls ↦ absurd (no_fault b y hy (out_of_order (record { before = a; earlier = x; there = hx; sooner = less; forbidden = falls })))
    | inr up ↦ up
  ]

  pub customs_kept : KeepsCustoms raw
  customs_kept = record { each = kept; by_parent = sorted_by (λ custom. custom.parent) raw.customs parent_up }
