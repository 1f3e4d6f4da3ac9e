-- What a cursor over the scopes has left, row after row.
use Rattle.std.{proofs.Common.{◌≡◌, ℕ, ◌+◌, ◌-◌, ◌≤◌, List, [], ◌∷◌, length, drop, map, sym, ap, ◌∙◌, arith}, specs.Prelude.{slice_get, Some, None}}
use Rattle.std.proofs.lemmas.List.{length-map}
use Rattle.blob_grammar.specs.Reader.{tail}
use Rattle.ppdb_tables.specs.{declared.rows.ScopeRow.{ScopeRow}, RawTables.{RawTables, numbered, row_at}}
use Rattle.ppdb_values_reading.{specs.declared.scopes.Scope.{Scope}, specs.Scopes.{scope_in, scopes_from}, proofs.Rows.{from_row, from_past, length-from}}
use Rattle.ppdb_values_reading.proofs.Rows.{length-numbered}

module _ (raw : RawTables) (row : ℕ) where
  pub left_some : (scope : ScopeRow) → row_at raw.scopes row ≡ Some scope → scopes_from raw row ≡ scope_in raw (row, scope) ∷ scopes_from raw (row + 1)
  left_some scope there = ap (λ (rows : List (ℕ × ScopeRow)). map (scope_in raw) rows) (from_row raw.scopes row scope there)

  pub left_none : 1 ≤ row → row_at raw.scopes row ≡ None → scopes_from raw row ≡ []
  left_none low past = ap (λ (rows : List (ℕ × ScopeRow)). map (scope_in raw) rows) (from_past raw.scopes row low past)

  pub left_length : length (scopes_from raw row) ≡ length raw.scopes - (row - 1)
  left_length =
      length-map (drop (row - 1) (numbered raw.scopes)) (scope_in raw)
      ∙ length-from (numbered raw.scopes) (row - 1)
      ∙ ap (λ (n : ℕ). n - (row - 1)) (length-numbered 1 raw.scopes)

-- no scope is left
pub none_answer : (left : List Scope) → left ≡ [] → None ≡ slice_get left 0
none_answer left e = ap (λ (xs : List Scope). slice_get xs 0) (sym e)

pub none_left : (left : List Scope) → left ≡ [] → left ≡ tail left
none_left left e = e ∙ ap (λ (xs : List Scope). tail xs) (sym e)

-- a scope and the others are left
pub some_answer : (left others : List Scope) (scope : Scope) → left ≡ scope ∷ others → Some scope ≡ slice_get left 0
some_answer left others scope e = ap (λ (xs : List Scope). slice_get xs 0) (sym e)

pub some_left : (left others : List Scope) (scope : Scope) → left ≡ scope ∷ others → others ≡ tail left
some_left left others scope e = ap (λ (xs : List Scope). tail xs) (sym e)

-- the rows that are read, of a new cursor and after an answer
pub new_cost : (raw : RawTables) (after before : ℕ) → after + (length raw.scopes - 1) ≡ before + (length raw.scopes + 1 - 1)
    → after + (length (scopes_from raw 1) - 1) ≡ before + length raw.scopes
new_cost raw after before h = let n = left_length raw 1 in omega (arith, h, n)

pub next_cost : (raw : RawTables) (row after before : ℕ) (left : List Scope) → 1 ≤ row → row ≤ length raw.scopes → left ≡ scopes_from raw row
    → after + (length raw.scopes - (row + 1)) ≡ before + (length raw.scopes + 1 - (row + 1))
    → after + (length (scopes_from raw (row + 1)) - 1) ≡ before + (length left - 1)
next_cost raw row after before left low high e h =
    let n = left_length raw row in
    let m = left_length raw (row + 1) in
    let same = ap (λ (xs : List Scope). length xs) e in
    omega (arith, low, high, h, n, m, same)
