-- What a row names, by what is read of it.
use Rattle.std.{proofs.Common.{◌≡◌, ℕ, true, false, ◌||◌, ◌&&◌, not, List, [], ◌∷◌, Option, Some, refl, sym, ap, ◌∙◌, cond, Bool}, specs.Prelude.{unwrap_or}}
use Rattle.std.specs.Prelude.{is_some, ◌≢◌}
use Rattle.ppdb_base.specs.Place.{cell}
use Rattle.custom_info.specs.{Kinds.{kind_of}, declared.kinds.Kind.{Kind}, declared.kinds.Kind.TheVariants.{Async}}
use Rattle.ppdb_maps.specs.Map.{Map, is_dropped, signature_line, row_image, is_gone_row, leaves_table}
use Rattle.ppdb_tables.specs.declared.{parent.Parent.{Parent}, rows.MethodDebugRow.{MethodDebugRow}, rows.ScopeRow.{ScopeRow}, rows.MachineRow.{MachineRow}}
use Rattle.ppdb_tables.specs.{declared.rows.CustomRow.{CustomRow}, Parents.{parent_in}, RawTables.{RawTables, row_at}}
use Rattle.ppdb_values.specs.{declared.file.MethodValue.{MethodValue}, Customs.{parent_of, kind_in}, Documents.{method_of}, Parts.{method_at}, RawFile.{RawFile}}
use Rattle.ppdb_values.specs.{Rows.{ValuesAreRows, method_in}, Value.{value_of}}
use Rattle.ppdb_merge_names.specs.References.{Reference, names, names_some, of_entry, of_signature, of_method, of_scope, of_machine, methods_in, is_type_documents}
use Rattle.ppdb_merge_names.{specs.References.{is_live_parent, leaves_types, of_parent, of_custom}, proofs.Parts.{of_points, is_live_record}}

abbrev if_kept : Bool → List Reference → List Reference
if_kept dropped rs = cond dropped [] rs

pub entry_later : (first : Bool) (m : Map) (entry : ℕ) → first ≡ false → of_entry first m entry ≡ []
entry_later first m entry e = rw e refl

pub entry_dropped : (first : Bool) (m : Map) (entry : ℕ) → first ≡ true → is_dropped m entry ≡ true → of_entry first m entry ≡ []
entry_dropped first m entry e d = rw (e, d) refl

-- a method by the value that it has
pub method_is : (raw : RawFile) (row : ℕ) (cells : MethodDebugRow) (o : Option MethodValue) → ValuesAreRows → row_at raw.tables.methods row ≡ Some cells
    → method_at (value_of raw) row ≡ o → method_of raw.tables (row, cells) ≡ o
method_is raw row cells o values there is = sym (values.method raw row ∙ ap (method_in raw.tables row) there) ∙ is

pub method_dropped : (m : Map) (raw : RawTables) (row : ℕ) (cells : MethodDebugRow) → is_dropped m row ≡ true → of_method m raw (row, cells) ≡ []
method_dropped m raw row cells d = ap (λ (b : Bool). if_kept b (of_points m row (method_of raw (row, cells)))) d

pub method_names : (m : Map) (raw : RawTables) (row : ℕ) (cells : MethodDebugRow) (o : Option MethodValue) → is_dropped m row ≡ false
    → method_of raw (row, cells) ≡ o
    → of_points m row o ≡ of_method m raw (row, cells)
method_names m raw row cells o d is = sym (ap (λ (b : Bool). if_kept b (of_points m row (method_of raw (row, cells)))) d ∙ ap (of_points m row) is)

-- the stored local signature of a method, by whether there is one, the map gives it another, and its row is gone
pub signature_none : (m : Map) (row signature : ℕ) → signature ≡ 0 → of_signature m row signature ≡ []
signature_none m row signature is = ap (of_signature m row) is ∙ by (is_some (signature_line m row) || is_gone_row m 0x11 0)
  where
    by : (b : Bool) → if_kept b [] ≡ []
    by true = refl
    by false = refl

pub signature_cut : (m : Map) (row signature : ℕ) → is_some (signature_line m row) ≡ true → of_signature m row signature ≡ []
signature_cut m row signature is = rw is refl

pub signature_gone : (m : Map) (row signature : ℕ) → is_gone_row m 0x11 signature ≡ true → of_signature m row signature ≡ []
signature_gone m row signature is = by (is_some (signature_line m row))
  where
    by : (b : Bool) → if_kept (b || is_gone_row m 0x11 signature) (names_some (cell 0x31 row 1) 0x11 signature) ≡ []
    by true = refl
    by false = rw is refl

pub scope_dropped : (m : Map) (row : ℕ) (cells : ScopeRow) → is_dropped m cells.method ≡ true → of_scope m (row, cells) ≡ []
scope_dropped m row cells d = rw d refl

pub machine_dropped : (m : Map) (row : ℕ) (cells : MachineRow) → (is_dropped m cells.move_next || is_dropped m cells.kickoff) ≡ true
    → of_machine m (row, cells) ≡ []
machine_dropped m row cells d =
    ap (λ (b : Bool). if_kept b (names (cell 0x36 row 0) 0x06 cells.move_next ∷ names (cell 0x36 row 1) 0x06 cells.kickoff ∷ [])) d

pub machine_names : (m : Map) (row : ℕ) (cells : MachineRow) → (is_dropped m cells.move_next || is_dropped m cells.kickoff) ≡ false
    → names (cell 0x36 row 0) 0x06 cells.move_next ∷ names (cell 0x36 row 1) 0x06 cells.kickoff ∷ [] ≡ of_machine m (row, cells)
machine_names m row cells d =
    sym (ap (λ (b : Bool). if_kept b (names (cell 0x36 row 0) 0x06 cells.move_next ∷ names (cell 0x36 row 1) 0x06 cells.kickoff ∷ [])) d)

-- a custom record by its parent
parent_is : (coded : ℕ) (parent : Parent) → Some parent ≡ parent_in coded → parent_of coded ≡ parent
parent_is coded parent e = ap (λ (o : Option Parent). unwrap_or o (record { table = 0; row = 0 })) (sym e)

abbrev if_live : Bool → List Reference → List Reference
if_live live rs = cond live rs []

custom_is : (m : Map) (raw : RawTables) (row : ℕ) (cells : CustomRow) (parent : Parent) → parent_of cells.parent ≡ parent
    → of_custom m raw (row, cells) ≡ if_live (is_live_record m raw cells parent) (of_parent raw (row, cells) parent)
custom_is m raw row cells parent e = ap (λ (p : Parent). if_live (is_live_record m raw cells p) (of_parent raw (row, cells) p)) e

pub custom_dropped : (m : Map) (raw : RawTables) (row : ℕ) (cells : CustomRow) (parent : Parent) → Some parent ≡ parent_in cells.parent
    → is_live_parent m parent ≡ false
    → of_custom m raw (row, cells) ≡ []
custom_dropped m raw row cells parent e d =
    custom_is m raw row cells parent (parent_is cells.parent parent e)
    ∙ ap (λ (b : Bool). if_live (b && not (leaves_types m raw cells parent)) (of_parent raw (row, cells) parent)) d

pub custom_leaves : (m : Map) (raw : RawTables) (row : ℕ) (cells : CustomRow) (parent : Parent) → Some parent ≡ parent_in cells.parent
    → is_live_parent m parent ≡ true → leaves_types m raw cells parent ≡ true
    → of_custom m raw (row, cells) ≡ []
custom_leaves m raw row cells parent e live leaves =
    custom_is m raw row cells parent (parent_is cells.parent parent e)
    ∙ ap (λ (b : Bool). if_live (b && not (leaves_types m raw cells parent)) (of_parent raw (row, cells) parent)) live
    ∙ ap (λ (b : Bool). if_live (not b) (of_parent raw (row, cells) parent)) leaves

pub custom_names : (m : Map) (raw : RawTables) (row : ℕ) (cells : CustomRow) (parent : Parent) → Some parent ≡ parent_in cells.parent
    → is_live_parent m parent ≡ true → leaves_types m raw cells parent ≡ false
    → of_parent raw (row, cells) parent ≡ of_custom m raw (row, cells)
custom_names m raw row cells parent e live stays =
    sym (custom_is m raw row cells parent (parent_is cells.parent parent e)
    ∙ ap (λ (b : Bool). if_live (b && not (leaves_types m raw cells parent)) (of_parent raw (row, cells) parent)) live
    ∙ ap (λ (b : Bool). if_live (not b) (of_parent raw (row, cells) parent)) stays)

-- a record of another kind names no method
pub no_methods : (raw : RawTables) (kind : Kind) (content : List ℕ) → kind ≢ Async → methods_in raw kind content ≡ []
no_methods raw Async content other = absurd (other refl)
no_methods raw kind content other = refl

-- a record whose parent stays in its table
pub stays_there : (m : Map) (raw : RawTables) (cells : CustomRow) (parent : Parent) → leaves_table parent.table (row_image m parent.table parent.row) ≡ false
    → false ≡ leaves_types m raw cells parent
stays_there m raw cells parent e = rw e (by (is_type_documents (kind_of [] (kind_in raw cells))))
  where
    by : (b : Bool) → false ≡ (b && false)
    by true = refl
    by false = refl
