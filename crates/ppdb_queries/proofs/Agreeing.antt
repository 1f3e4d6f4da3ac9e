-- What is made of the rows of a table, and the rows themselves.
use Rattle.std.{proofs.Common.{◌≡◌, ℕ, ◌+◌, List, [], ◌∷◌, ◌++◌, map, refl, sym, ap, ◌∙◌, Bool, true, false, cond}, specs.Prelude.{Option, Some, None, is_some}}
use Rattle.std.specs.{Prelude.{unwrap_or, ◌==◌, ◌&&◌}, List.{filter, filter_map, flat_map, enumerate_from, cons_option}, Option.{option_map}}
use Rattle.custom_info.specs.declared.slots.{Slot.{Slot}, Slot.TheVariants.{Empty, Held}}
use Rattle.ppdb_tables.specs.{declared.rows.CustomRow.{CustomRow}, RawTables.{RawTables, numbered, row_at}}
use Rattle.ppdb_values.specs.{Chains.{chain_of}, Customs.{custom_of, parent_of}, Documents.{document_of}, Imports.{import_scope_of}, Meaning.{SlotMeaning, slot_at}}
use Rattle.ppdb_values.specs.{Meaning.{slots_at}, Parts.{customs_on, import_chain, is_at, holds, scopes_at as scopes_of_value, slots_in}, RawFile.{RawFile}}
use Rattle.ppdb_values.{specs.Value.{value_of, scope_of, range_of}, proofs.Mapped.{scopes_are_rows, chain_is_rows, row_map}}
use Rattle.ppdb_queries.specs.{Chains.{link_of, links_from}, Hoisted.{hoisted_at, hoisted_at_slot, hoisted_in, slots_from, slots_of}, Laws.{hoisted_records}}
use Rattle.ppdb_queries.specs.{Laws.{at_position, of_scope, of_view, of_import, of_link}, Runs.{customs_at}, Scopes.{scope_view, scopes_at}}

map_map : {X Y Z : Type 0} (f : X → Y) (g : Y → Z) (xs : List X) → map g (map f xs) ≡ map (λ x. g (f x)) xs
map_map f g [] = refl
map_map f g (x ∷ xs) = ap (λ rest. g (f x) ∷ rest) (map_map f g xs)

pub document_is : (raw : RawFile) (n : ℕ) → row_at (value_of raw).documents n ≡ option_map (document_of raw.tables) (row_at raw.tables.documents n)
document_is raw n = row_map (document_of raw.tables) raw.tables.documents n

customs_from : (raw : RawTables) (table row n : ℕ) (customs : List CustomRow)
    → filter (λ custom. is_at table row custom.parent) (map (custom_of raw) customs)
    ≡ map (λ row. custom_of raw row.1) (filter (λ custom. is_at table row (parent_of custom.1.parent)) (enumerate_from n customs))
customs_from raw table row n [] = refl
customs_from raw table row n (c ∷ cs) =
    let more = customs_from raw table row (n + 1) cs in
    elim (is_at table row (parent_of c.parent)) as (λ b. cond b (custom_of raw c ∷ filter (λ custom. is_at table row custom.parent) (map (custom_of raw) cs))
    (filter (λ custom. is_at table row custom.parent) (map (custom_of raw) cs))
    ≡ map (λ row. custom_of raw row.1) (cond b ((n, c) ∷ filter (λ custom. is_at table row (parent_of custom.1.parent)) (enumerate_from (n + 1) cs))
    (filter (λ custom. is_at table row (parent_of custom.1.parent)) (enumerate_from (n + 1) cs)))) [
      | true ↦ ap (λ rest. custom_of raw c ∷ rest) more
      | false ↦ more
    ]

pub customs_are : (raw : RawFile) (table row : ℕ) → customs_on (value_of raw) table row ≡ map (λ custom. custom_of raw.tables custom.1)
    (customs_at raw.tables table row)
customs_are raw table row = customs_from raw.tables table row 1 raw.tables.customs

pub scopes_are : (raw : RawFile) (m x : ℕ) → map of_scope (scopes_of_value (value_of raw) m x) ≡ map of_view (scopes_at raw.tables m x)
scopes_are raw m x =
    let rows = filter (λ row. (row.1.method == m) && holds (range_of row.1) x) (numbered raw.tables.scopes) in
    ap (map of_scope) (scopes_are_rows raw m x)
    ∙ map_map (λ row. (row.0, scope_of raw.tables row)) of_scope rows
    ∙ sym (map_map (scope_view raw.tables) of_view rows)

pub imports_are : (raw : RawFile) (import : ℕ) → map of_import (import_chain (value_of raw) import) ≡ map of_link (links_from raw.tables import)
imports_are raw import =
    let rows = chain_of (λ scope. scope.parent) raw.tables.imports import in
    ap (map of_import) (chain_is_rows raw import)
    ∙ map_map (λ link. (link.0, import_scope_of raw.tables link.1)) of_import rows
    ∙ sym (map_map (link_of raw.tables) of_link rows)

-- ---- hoisted locals

-- the records of hoisted locals among some records
abbrev kept : RawTables → List (ℕ × CustomRow) → List (ℕ × CustomRow)
kept raw rows = filter (λ row. is_some (slots_in (custom_of raw row.1).value)) rows

-- those of other kinds hold nothing
only_next : (raw : RawTables) (x : ℕ) (row : ℕ × CustomRow) (rows : List (ℕ × CustomRow)) (found : Option (List Slot))
    → slots_in (custom_of raw row.1).value ≡ found
    → hoisted_in raw x rows ≡ hoisted_in raw x (kept raw rows) → hoisted_in raw x (row ∷ rows) ≡ hoisted_in raw x (kept raw (row ∷ rows))
only_next raw x row rows (Some slots) e more =
    let flag : is_some (slots_in (custom_of raw row.1).value) ≡ true = ap is_some e in
    ap (λ rest. slots_from x row.0 0 (slots_of raw row.1) ++ rest) more
    ∙ sym (ap (λ (b : Bool). hoisted_in raw x (cond b (row ∷ kept raw rows) (kept raw rows))) flag)
only_next raw x row rows None e more =
    let flag : is_some (slots_in (custom_of raw row.1).value) ≡ false = ap is_some e in
    ap (λ (slots : List Slot). slots_from x row.0 0 slots ++ hoisted_in raw x rows) (ap (λ (o : Option (List Slot)). unwrap_or o []) e)
    ∙ more ∙ sym (ap (λ (b : Bool). hoisted_in raw x (cond b (row ∷ kept raw rows) (kept raw rows))) flag)

only_hoisted : (raw : RawTables) (x : ℕ) (rows : List (ℕ × CustomRow)) → hoisted_in raw x rows ≡ hoisted_in raw x (kept raw rows)
only_hoisted raw x [] = refl
only_hoisted raw x (row ∷ rows) = only_next raw x row rows (slots_in (custom_of raw row.1).value) refl (only_hoisted raw x rows)

pub hoisted_is : (raw : RawFile) (m x : ℕ) → hoisted_at raw.tables m x ≡ hoisted_in raw.tables x (hoisted_records raw.tables m)
hoisted_is raw m x = only_hoisted raw.tables x (customs_at raw.tables 0x06 m)

-- one slot, by the position of its record and by its row
one_slot : (x position row n : ℕ) (slot : Slot) → slot_at x position (n, slot) ≡ option_map (at_position position) (hoisted_at_slot x row (n, slot))
one_slot x position row n Empty = refl
one_slot x position row n (Held range) = elim (holds range x) as (λ b. cond b (Some (record { position = position; slot = n; range = range })) None
    ≡ option_map (at_position position) (option_map (λ range. record { row = row; slot = n; range = range }) (cond b (Some range) None))) [
      | true ↦ refl
      | false ↦ refl
    ]

map_cons : {X Y : Type 0} (f : X → Y) (o : Option X) (xs : List X) → cons_option (option_map f o) (map f xs) ≡ map f (cons_option o xs)
map_cons f None xs = refl
map_cons f (Some x) xs = refl

positions_in : (x position row n : ℕ) (slots : List Slot) → filter_map (slot_at x position) (enumerate_from n slots) ≡ map (at_position position)
    (slots_from x row n slots)
positions_in x position row n [] = refl
positions_in x position row n (slot ∷ slots) =
    ap (λ o. cons_option o (filter_map (slot_at x position) (enumerate_from (n + 1) slots))) (one_slot x position row n slot)
    ∙ ap (cons_option (option_map (at_position position) (hoisted_at_slot x row (n, slot)))) (positions_in x position row (n + 1) slots)
    ∙ map_cons (at_position position) (hoisted_at_slot x row (n, slot)) (slots_from x row (n + 1) slots)

-- the slots of the hoisted records of some records, and the same by their rows
abbrev lists_in : RawTables → List (ℕ × CustomRow) → List (List Slot)
lists_in raw rows = filter_map (λ custom. slots_in custom.value) (map (λ row. custom_of raw row.1) rows)

abbrev by_position : ℕ → ℕ → List (List Slot) → List SlotMeaning
by_position x position lists = flat_map (λ hoisted. filter_map (slot_at x hoisted.0) (enumerate_from 0 hoisted.1)) (enumerate_from position lists)

abbrev by_row : RawTables → ℕ → ℕ → List (ℕ × CustomRow) → List SlotMeaning
by_row raw x position rows =
    flat_map (λ record_at. map (at_position record_at.0) (slots_from x record_at.1.0 0 (slots_of raw record_at.1.1))) (enumerate_from position rows)

position_next : (raw : RawTables) (x position : ℕ) (row : ℕ × CustomRow) (rows : List (ℕ × CustomRow)) (found : Option (List Slot))
    → slots_in (custom_of raw row.1).value ≡ found
    → ((n : ℕ) → by_position x n (lists_in raw rows) ≡ by_row raw x n (kept raw rows))
    → by_position x position (lists_in raw (row ∷ rows)) ≡ by_row raw x position (kept raw (row ∷ rows))
position_next raw x position row rows (Some slots) e more =
    let flag : is_some (slots_in (custom_of raw row.1).value) ≡ true = ap is_some e in
    let owned : slots_of raw row.1 ≡ slots = ap (λ (o : Option (List Slot)). unwrap_or o []) e in
    ap (λ (o : Option (List Slot)). by_position x position (cons_option o (lists_in raw rows))) e
    ∙ ap (λ (first : List SlotMeaning). first ++ by_position x (position + 1) (lists_in raw rows)) (positions_in x position row.0 0 slots)
    ∙ ap (λ (s : List Slot). map (at_position position) (slots_from x row.0 0 s) ++ by_position x (position + 1) (lists_in raw rows)) (sym owned)
    ∙ ap (λ (rest : List SlotMeaning). map (at_position position) (slots_from x row.0 0 (slots_of raw row.1)) ++ rest) (more (position + 1))
    ∙ sym (ap (λ (b : Bool). by_row raw x position (cond b (row ∷ kept raw rows) (kept raw rows))) flag)
position_next raw x position row rows None e more =
    let flag : is_some (slots_in (custom_of raw row.1).value) ≡ false = ap is_some e in
    ap (λ (o : Option (List Slot)). by_position x position (cons_option o (lists_in raw rows))) e
    ∙ more position
    ∙ sym (ap (λ (b : Bool). by_row raw x position (cond b (row ∷ kept raw rows) (kept raw rows))) flag)

positions_from : (raw : RawTables) (x position : ℕ) (rows : List (ℕ × CustomRow))
    → by_position x position (lists_in raw rows) ≡ by_row raw x position (kept raw rows)
positions_from raw x position [] = refl
positions_from raw x position (row ∷ rows) =
    position_next raw x position row rows (slots_in (custom_of raw row.1).value) refl (λ n. positions_from raw x n rows)

pub positions_are : (raw : RawFile) (m x : ℕ) → slots_at (value_of raw) m x
    ≡ flat_map (λ record_at. map (at_position record_at.0) (slots_from x record_at.1.0 0 (slots_of raw.tables record_at.1.1)))
    (enumerate_from 0 (hoisted_records raw.tables m))
positions_are raw m x =
    ap (λ customs. by_position x 0 (filter_map (λ custom. slots_in custom.value) customs)) (customs_are raw 0x06 m)
    ∙ positions_from raw.tables x 0 (customs_at raw.tables 0x06 m)
