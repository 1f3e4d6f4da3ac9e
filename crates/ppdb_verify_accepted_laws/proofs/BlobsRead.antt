-- In a file that keeps the rules each cursor over a blob of a row answers no fault.
use Rattle.std.{proofs.Common.{◌≡◌, ◌≢◌, ◌⊎◌, ℕ, List, [], Bool, true, false, cond, sym, ap, ◌∙◌, subst, inl, inr}, specs.Prelude.{Some, ◌||◌}, specs.Str.{bytes_eq}}
use Rattle.custom_info.specs.declared.kinds.{Kind.{Kind}, Kind.TheVariants.{Async, Hoisted, TypeDocuments, Free, Unknown}}
use Rattle.custom_info.specs.{HoistedScopes.{hoisted_scopes}, TypeDocuments.{type_documents}, Kinds.{async_stepping as async_guid, hoisted_scopes as hoisted_guid}}
use Rattle.custom_info.specs.Kinds.{is_one_of, kind_of, passed_on, type_documents as documents_guid}
use Rattle.ppdb_heaps.specs.{Heaps.{blob_at, guid_at}, Names.{names}}
use Rattle.ppdb_tables.specs.{declared.rows.CustomRow.{CustomRow}, RawTables.{RawTables, count, row_at}}
use Rattle.sequence_points.specs.Records.{sequence_points}
use Rattle.type_blobs.specs.{Constants.{constants}, Imports.{imports}}
use Rattle.ppdb_values.specs.{Customs.{kind_in}, RawFile.{RawFile, blob, point_limits, type_limits}, Rules.{IsWhole, IsWholeOfKind, KeepsRules}}
use Rattle.ppdb_verify_accepted_laws.{specs.Cursors.{CursorsNeverFault, HasKind}, proofs.Cursors.{constant_reads_on, name_reads_on, named, points_read_on, reads_on}}
use Rattle.ppdb_verify_accepted_laws.proofs.Cursors.{stepping_reads_on}

-- ---- a kind that is read, whatever kinds are marked

abbrev by_tests : Bool → Bool → Bool → Bool → Kind
by_tests a h t free = cond a Async (cond h Hoisted (cond t TypeDocuments (cond free Free Unknown)))

unmarked : (a h t free marked : Bool) (kind : Kind) → kind ≢ Free → kind ≢ Unknown → by_tests a h t marked ≡ kind → by_tests a h t free ≡ kind
unmarked true h t free marked kind not_free not_unknown is = is
unmarked false true t free marked kind not_free not_unknown is = is
unmarked false false true free marked kind not_free not_unknown is = is
unmarked false false false free true kind not_free not_unknown is = absurd (not_free (sym is))
unmarked false false false free false kind not_free not_unknown is = absurd (not_unknown (sym is))

kind_unmarked : (marks : List (List ℕ)) (guid : List ℕ) (kind : Kind) → kind ≢ Free → kind ≢ Unknown → kind_of marks guid ≡ kind → kind_of [] guid ≡ kind
kind_unmarked marks guid kind not_free not_unknown is =
    unmarked (bytes_eq guid async_guid) (bytes_eq guid hoisted_guid) (bytes_eq guid documents_guid)
    (is_one_of passed_on guid || is_one_of [] guid) (is_one_of passed_on guid || is_one_of marks guid) kind not_free not_unknown is

same_guid : (raw : RawTables) (x : CustomRow) (guid : List ℕ) → guid_at raw.guids x.kind ≡ Some (kind_in raw x) → guid_at raw.guids x.kind ≡ Some guid
    → guid ≡ kind_in raw x
same_guid raw x guid there named = cc

module _ (file : RawFile) (keeps : KeepsRules file) where
  of_kind : (row : ℕ) (x : CustomRow) (content : List ℕ) (kind : Kind) → kind ≢ Free → kind ≢ Unknown → row_at file.tables.customs row ≡ Some x
      → blob_at file.tables.blobs x.value ≡ Some content → HasKind file.tables x kind → IsWholeOfKind file.tables kind content
  of_kind row x content kind not_free not_unknown here there has =
      let custom = keeps.customs.each row x here in
      let same = same_guid file.tables x has.guid custom.kind has.there in
      let is : kind_of [] (kind_in file.tables x) ≡ kind =
      sym (ap (λ (guid : List ℕ). kind_of [] guid) same) ∙ kind_unmarked has.marks has.guid kind not_free not_unknown has.kind_is in
      named file.tables x.value content (λ bytes. IsWholeOfKind file.tables kind bytes) custom.value there
      (subst (λ (k : Kind). IsWholeOfKind file.tables k (blob file.tables x.value)) is custom.value_whole)

  pub never_fault : CursorsNeverFault file.tables
  never_fault = record {
    names = λ row x content here there made may.
        let document = keeps.documents.each row x here in
        name_reads_on file.tables.blobs content made
        (named file.tables x.name content (λ bytes. IsWhole (names file.tables.blobs) bytes) document.name there document.name_whole) may;
    points = λ row x content here there some made may.
        let method = keeps.methods.each row x here in
        elim (named file.tables x.points content (λ bytes. (bytes ≡ []) ⊎ IsWhole (sequence_points x.document (point_limits file.tables)) bytes) method.points
        there method.points_whole) [
          | inl nil ↦ absurd (some nil)
          | inr whole ↦ points_read_on x.document (point_limits file.tables) content made whole may
        ];
    constants = λ row x content here there made reads.
        let constant = keeps.constants.each row x here in
        constant_reads_on (type_limits file.tables) content made
        (named file.tables x.signature content (λ bytes. IsWhole (constants (type_limits file.tables)) bytes) constant.signature there constant.signature_whole)
        reads;
    imports = λ row x content here there made reads.
        let import = keeps.imports.each row x here in
        reads_on (imports (type_limits file.tables) (blob_at file.tables.blobs)) content made
        (named file.tables x.imports content (λ bytes. IsWhole (imports (type_limits file.tables) (blob_at file.tables.blobs)) bytes) import.imports there
        import.imports_whole) reads;
    stepping = λ row x content here there has made may.
        stepping_reads_on (count file.tables 0x06) content made (of_kind row x content Async (λ e. cc) (λ e. cc) here there has) may;
    slots = λ row x content here there has made reads.
        reads_on hoisted_scopes content made (of_kind row x content Hoisted (λ e. cc) (λ e. cc) here there has) reads;
    rows = λ row x content here there has made reads.
        reads_on (type_documents (count file.tables 0x30)) content made (of_kind row x content TypeDocuments (λ e. cc) (λ e. cc) here there has) reads;
  }
