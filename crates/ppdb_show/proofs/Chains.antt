-- The links of a chain of import scopes.
use Rattle.std.{proofs.Common.{◌≡◌, ℕ, zero, suc, ◌+◌, List, [], ◌∷◌, ◌++◌, length, map, refl, ap, arith}, specs.Prelude.{Option, Some, None}, specs.List.{flat_map}}
use Rattle.std.specs.{List.{sum_by}, Option.{option_map_or}}
use Rattle.ppdb_tables.{specs.declared.rows.ImportRow.{ImportRow}, specs.RawTables.{RawTables, count, row_at}, proofs.NumberedRows.{row_within}}
use Rattle.ppdb_values.specs.{Chains.{chain_for}, Rules.{HasRow}}
use Rattle.ppdb_queries.specs.{declared.imports.ImportLink.{ImportLink}, Chains.{link_of, links_from}}
use Rattle.ppdb_show_lines.specs.Lines.{Line}
use Rattle.ppdb_show.{specs.Query.{import_answer}, specs.QueryWalk.{lines_of_link, customs_reads, item_reads, items_reads}, proofs.Added.{sum_first}}
use Rattle.ppdb_show.proofs.Given.{Each}

-- the import scope is there, and its imports are whole
abbrev pub IsLink : RawTables → ImportLink → Type 0
IsLink raw link = HasRow raw 0x35 link.row × (link.imports.fault ≡ None)

abbrev pub link_reads : RawTables → ImportLink → ℕ
link_reads raw link = 1 + customs_reads raw 0x35 link.row

link_there : (raw : RawTables) (n : ℕ) (row : ImportRow) → length raw.imports ≡ count raw 0x35 → row_at raw.imports n ≡ Some row
    → IsLink raw (link_of raw (n, row))
link_there raw n row many there = let within = row_within raw.imports n row there in ((within.0, omega (arith, within, many)), refl)

links_by : (raw : RawTables) (most n : ℕ) (found : Option ImportRow) → length raw.imports ≡ count raw 0x35 → row_at raw.imports n ≡ found
    → ((next : ℕ) → Each (IsLink raw) (map (link_of raw) (chain_for (λ scope. scope.parent) raw.imports most next)))
    → Each (IsLink raw) (map (link_of raw) (option_map_or (λ link. (n, link) ∷ chain_for (λ scope. scope.parent) raw.imports most link.parent) found []))
links_by raw most n None many e more = tt
links_by raw most n (Some row) many e more = (link_there raw n row many e, more row.parent)

links_for : (raw : RawTables) (most n : ℕ) → length raw.imports ≡ count raw 0x35
    → Each (IsLink raw) (map (link_of raw) (chain_for (λ scope. scope.parent) raw.imports most n))
unfolding chain_for
links_for raw zero n many = tt
links_for raw (suc most) n many = links_by raw most n (row_at raw.imports n) many refl (λ next. links_for raw most next many)

-- each link of a chain is there
pub links_there : (raw : RawTables) (import : ℕ) → length raw.imports ≡ count raw 0x35 → Each (IsLink raw) (links_from raw import)
links_there raw import many = links_for raw (length raw.imports) import many

-- the lines of the links are those of the rows, and so are the rows that are read for them
pub lines_of_links : (raw : RawTables) (rows : List (ℕ × ImportRow)) → flat_map (lines_of_link raw) (map (link_of raw) rows) ≡ flat_map (import_answer raw) rows
lines_of_links raw [] = refl
lines_of_links raw (row ∷ rows) = ap (λ (rest : List Line). import_answer raw row ++ rest) (lines_of_links raw rows)

pub reads_of_links : (raw : RawTables) (rows : List (ℕ × ImportRow)) → sum_by (link_reads raw) (map (link_of raw) rows) ≡ items_reads raw 0x35 rows
reads_of_links raw [] = refl
reads_of_links raw (row ∷ rows) =
    let links = sum_first (link_reads raw) (link_of raw row) (map (link_of raw) rows) in
    let items = sum_first (item_reads {X = ImportRow} raw 0x35) row rows in
    let more = reads_of_links raw rows in
    omega (arith, links, items, more)
