-- The kind of a custom record, and the lines of a record of a kind.
use Rattle.std.proofs.Common.{◌≡◌, ℕ, List, [], sym, ap, subst, ◌∙◌}
use Rattle.custom_info.specs.{declared.kinds.Kind.{Kind}, declared.kinds.Kind.TheVariants.{Hoisted as HoistedKind}, Kinds.{kind_of}}
use Rattle.ppdb_tables.specs.{declared.rows.CustomRow.{CustomRow}, RawTables.{RawTables}}
use Rattle.ppdb_values.specs.{Customs.{custom_body, kind_in}, RawFile.{blob}}
use Rattle.ppdb_show_lines.specs.{declared.form.Form.{Form}, Lines.{Line}}
use Rattle.ppdb_show.{specs.Query.{custom_found, lines_of_body, lines_of_record}, specs.QueryWalk.{Adds}, proofs.Added.{adds_none}}

-- ---- the lines of a record of a kind

kind_lines : (raw : RawTables) (n : ℕ) (row : CustomRow) (kind : Kind) → kind_of [] (kind_in raw row) ≡ kind
    → lines_of_record raw (n, row) ≡ lines_of_body (custom_found raw row) (custom_body raw kind (blob raw row.value))
kind_lines raw n row kind e = ap (λ (k : Kind). lines_of_body (custom_found raw row) (custom_body raw k (blob raw row.value))) e

pub hoisted_put : (form : Form) (raw : RawTables) (n : ℕ) (row : CustomRow) (kind : Kind) (old : List ℕ) → kind ≡ kind_of [] (kind_in raw row) → kind ≡ HoistedKind
    → Adds form old old (lines_of_record raw (n, row))
hoisted_put form raw n row kind old is hoisted =
    subst (λ (lines : List Line). Adds form old old lines) (sym (kind_lines raw n row HoistedKind (sym is ∙ hoisted))) (adds_none form old)
