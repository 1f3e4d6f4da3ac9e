-- What is made of the items that are there is made of the rows that they stand for.
use Rattle.std.{proofs.Common.{◌≡◌, ℕ, List, [], ◌∷◌, ◌++◌, Option, Some, None, refl, ap, arith}, specs.List.{filter_map, flat_map, cons_option}}
use Rattle.ppdb_tables.specs.{declared.rows.MethodDebugRow.{MethodDebugRow}, RawTables.{RawTables, numbered}}
use Rattle.ppdb_values.specs.{declared.file.MethodValue.{MethodValue}, Documents.{method_of}}
use Rattle.break_lines.specs.{Walks.{breaks_of, breaks_by, breaks_at_row}, Laws.{BreaksAreRows}}

by_rows : (raw : RawTables) (document line : ℕ) (rows : List (ℕ × MethodDebugRow))
    → flat_map (breaks_at_row raw document line) rows
    ≡ flat_map (λ (method : MethodValue). breaks_of document line method.method method.points) (filter_map (method_of raw) rows)
by_rows raw document line [] = refl
by_rows raw document line (row ∷ rows) = step (method_of raw row) (by_rows raw document line rows)
  where
    step : (o : Option MethodValue) → flat_map (breaks_at_row raw document line) rows ≡ flat_map
        (λ (method : MethodValue). breaks_of document line method.method method.points) (filter_map (method_of raw) rows)
        → breaks_by document line o ++ flat_map (breaks_at_row raw document line) rows
        ≡ flat_map (λ (method : MethodValue). breaks_of document line method.method method.points) (cons_option o (filter_map (method_of raw) rows))
    step None rest = rest
    step (Some method) rest = ap (λ l. breaks_of document line method.method method.points ++ l) rest

pub breaks_are_rows : BreaksAreRows
breaks_are_rows = record {
  items = λ raw document line. by_rows raw.tables document line (numbered raw.tables.methods);
  rows =
      λ raw document line. omega arith;
}
