-- The lines of documents, row by row, and with links in another order.
use Rattle.std.proofs.Common.{◌≡◌, ℕ, zero, suc, ◌+◌, ◌-◌, ◌≤◌, ◌∙◌, List, [], ◌∷◌, ◌++◌, length, drop, map, refl, sym, ap, arith, Option, Some}
use Rattle.std.{specs.List.{enumerate_from}, proofs.lemmas.List.{drop_all}, proofs.lemmas.List.FromFn.{length-enumerate_from}}
use Rattle.ppdb_show_lines.{specs.declared.form.Form.{Form}, specs.Forms.{lines_as}, specs.Lines.{Line}, proofs.Texts.{no_lines as nothing, more_lines}}
use Rattle.ppdb_tables.specs.{declared.rows.DocumentRow.{DocumentRow}, RawTables.{RawTables, numbered, row_at}}
use Rattle.ppdb_values.specs.{declared.file.DocumentValue.{DocumentValue}, declared.file.FileValue.{FileValue}, Documents.{document_of}, RawFile.{RawFile}}
use Rattle.ppdb_values.specs.Value.{value_of}
use Rattle.source_link.specs.{declared.pair.Pair.{Pair}, Address.{address_of}}
use Rattle.ppdb_show_sources.specs.Links.{link_line, link_of, link_lines, link_text}
use Rattle.break_lines.proofs.Methods.{from_row}

-- ---- links that stand in another order

same_lines : (links pairs : List Pair) (documents : List (ℕ × DocumentValue)) → ((name : List ℕ) → address_of name links ≡ address_of name pairs)
    → map (link_of links) documents ≡ map (link_of pairs) documents
same_lines links pairs [] same = refl
same_lines links pairs (document ∷ documents) same =
    ap (λ (address : Option (List ℕ)). link_line document.0 address ∷ map (link_of links) documents) (same document.1.name)
    ∙ ap (λ (l : List Line). link_of pairs document ∷ l) (same_lines links pairs documents same)

pub same_lines_of : (value : FileValue) (links pairs : List Pair) → ((name : List ℕ) → address_of name links ≡ address_of name pairs)
    → link_lines value links ≡ link_lines value pairs
same_lines_of value links pairs same = same_lines links pairs (numbered value.documents) same

-- ---- row by row

-- the lines of the documents after the first so many
pub lines_after : Form → RawTables → List Pair → ℕ → List ℕ
lines_after form raw pairs done =
    lines_as form (map (λ (row : ℕ × DocumentRow). link_of pairs (row.0, document_of raw row.1)) (drop done (numbered raw.documents)))

of_rows : (raw : RawTables) (pairs : List Pair) (n : ℕ) (rows : List DocumentRow)
    → map (link_of pairs) (enumerate_from n (map (document_of raw) rows)) ≡ map
    (λ (row : ℕ × DocumentRow). link_of pairs (row.0, document_of raw row.1)) (enumerate_from n rows)
of_rows raw pairs n [] = refl
of_rows raw pairs n (row ∷ rows) = ap (λ (l : List Line). link_of pairs (n, document_of raw row) ∷ l) (of_rows raw pairs (n + 1) rows)

pub all_lines : (form : Form) (raw : RawFile) (pairs : List Pair) → link_text form (value_of raw) pairs ≡ lines_after form raw.tables pairs 0
unfolding lines_after
all_lines form raw pairs = ap (lines_as form) (of_rows raw.tables pairs 1 raw.tables.documents)

-- the line of a row comes before those of the rows after it
pub next_line : (form : Form) (raw : RawTables) (pairs : List Pair) (i : ℕ) (cells : DocumentRow) → row_at raw.documents (suc i) ≡ Some cells
    → lines_after form raw pairs i ≡ lines_as form (link_of pairs (suc i, document_of raw cells) ∷ []) ++ lines_after form raw pairs (suc i)
unfolding lines_after
next_line form raw pairs i cells there =
    let number : 1 + i ≡ suc i = omega arith in
    let line = λ (row : ℕ × DocumentRow). link_of pairs (row.0, document_of raw row.1) in
    ap (λ (rows : List (ℕ × DocumentRow)). lines_as form (map line rows)) (from_row 1 raw.documents i cells there)
    ∙ ap (λ n. lines_as form (link_of pairs (n, document_of raw cells) ∷ map line (drop (suc i) (numbered raw.documents)))) number
    ∙ more_lines form (link_of pairs (suc i, document_of raw cells) ∷ []) (map line (drop (suc i) (numbered raw.documents)))

pub no_lines : (form : Form) (raw : RawTables) (pairs : List Pair) (done : ℕ) → length raw.documents ≤ done → lines_after form raw pairs done ≡ []
unfolding lines_after
no_lines form raw pairs done past =
    ap (λ (rows : List (ℕ × DocumentRow)). lines_as form (map (λ (row : ℕ × DocumentRow). link_of pairs (row.0, document_of raw row.1)) rows))
    (drop_all done (numbered raw.documents) (omega (arith, length-enumerate_from 1 raw.documents, past))) ∙ nothing form

pub next_row : (form : Form) (raw : RawTables) (pairs : List Pair) (row : ℕ) (cells : DocumentRow) → 1 ≤ row → row_at raw.documents row ≡ Some cells
    → lines_after form raw pairs (row - 1) ≡ lines_as form (link_of pairs (row, document_of raw cells) ∷ []) ++ lines_after form raw pairs (row + 1 - 1)
next_row form raw pairs zero cells from there = absurd (omega (arith, from))
next_row form raw pairs (suc i) cells from there =
    let here : suc i - 1 ≡ i = omega arith in
    let after : suc i + 1 - 1 ≡ suc i = omega arith in
    ap (λ n. lines_after form raw pairs n) here ∙ next_line form raw pairs i cells there
    ∙ ap (λ n. lines_as form (link_of pairs (suc i, document_of raw cells) ∷ []) ++ lines_after form raw pairs n) (sym after)
