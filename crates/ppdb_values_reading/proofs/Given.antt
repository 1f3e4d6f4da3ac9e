-- What the methods and the scopes of a file give, one after the other.
use Rattle.std.{proofs.Common.{◌≡◌, ℕ, ◌+◌, ◌-◌, ◌≤◌, List, [], ◌∷◌, ◌++◌, length, take, map, refl, sym, ap, ◌∙◌, append_assoc}, specs.Prelude.{Option, Some, None}}
use Rattle.std.specs.List.{filter_map}
use Rattle.ppdb_tables.{specs.declared.rows.MethodDebugRow.{MethodDebugRow}, specs.RawTables.{numbered, row_at}, proofs.NumberedRows.{row_there}}
use Rattle.ppdb_values.specs.{declared.file.MethodValue.{MethodValue}, Documents.{method_of}, Parts.{method_at}, RawFile.{RawFile}, Rows.{ValuesAreRows, method_in}}
use Rattle.ppdb_values.specs.Value.{value_of}
use Rattle.ppdb_values_reading.proofs.Rows.{given_more}

filter_some : {X Y : Type 0} (f : X → Option Y) (x : X) (y : Y) → f x ≡ Some y → filter_map f (x ∷ []) ≡ y ∷ []
filter_some f x y e = rw e refl

filter_none : {X Y : Type 0} (f : X → Option Y) (x : X) → f x ≡ None → filter_map f (x ∷ []) ≡ []
filter_none f x e = rw e refl

module _ (raw : RawFile) (row : ℕ) (values : ValuesAreRows) (low : 1 ≤ row) (high : row ≤ length raw.tables.methods) where
  abbrev Made : List MethodValue → ℕ → Type 0
  Made methods row = methods ≡ filter_map (method_of raw.tables) (take (row - 1) (numbered raw.tables.methods))

  method_is : (cells : MethodDebugRow) (o : Option MethodValue) → row_at raw.tables.methods row ≡ Some cells → method_at (value_of raw) row ≡ o
      → method_of raw.tables (row, cells) ≡ o
  method_is cells o there is = sym (values.method raw row ∙ ap (method_in raw.tables row) there) ∙ is

  -- a method that has points is one more
  pub method_more : (methods more : List MethodValue) (m : MethodValue) → method_at (value_of raw) row ≡ Some m → Made methods row
      → more ≡ methods ++ m ∷ [] → Made more (row + 1)
  method_more methods more m is made pushed =
      let x = row_there raw.tables.methods row low high in
      let one = filter_some (method_of raw.tables) (row, x.0) m (method_is x.0 (Some m) x.1 is) in
      pushed ∙ ap (λ (ms : List MethodValue). methods ++ ms) (sym one) ∙ given_more (method_of raw.tables) raw.tables.methods methods row x.0 x.1 made

  append_none : (xs : List MethodValue) → xs ++ [] ≡ xs
  append_none [] = refl
  append_none (x ∷ xs) = ap (λ (ys : List MethodValue). x ∷ ys) (append_none xs)

  -- and one that has none is not
  pub method_none : (methods more : List MethodValue) → method_at (value_of raw) row ≡ None → Made methods row → more ≡ methods → Made more (row + 1)
  method_none methods more is made same =
      let x = row_there raw.tables.methods row low high in
      let none = filter_none (method_of raw.tables) (row, x.0) (method_is x.0 None x.1 is) in
      same ∙ sym (append_none methods) ∙ ap (λ (ms : List MethodValue). methods ++ ms) (sym none)
      ∙ given_more (method_of raw.tables) raw.tables.methods methods row x.0 x.1 made

-- what was made and what is left, after one more
pub made_on : {X Y : Type 0} (f : X → Y) (made more all : List Y) (y : Y) (items others : List X) (x : X) → items ≡ x ∷ others → y ≡ f x → more ≡ made ++ y ∷ []
    → made ++ map f items ≡ all → more ++ map f others ≡ all
made_on {X} {Y} f made more all y items others x first is pushed same =
    ap (λ (ys : List Y). ys ++ map f others) (pushed ∙ ap (λ (z : Y). made ++ z ∷ []) is)
    ∙ append_assoc made (f x ∷ []) (map f others)
    ∙ ap (λ (xs : List X). made ++ map f xs) (sym first) ∙ same
