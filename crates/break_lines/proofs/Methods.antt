-- A walk over the methods, one after the other.
use Rattle.std.proofs.Common.{◌≡◌, ℕ, zero, suc, ◌+◌, ◌<◌, ◌≤◌, ◌∙◌, List, [], ◌∷◌, ◌++◌, length, drop, refl, sym, ap, arith, Option, Some, None}
use Rattle.std.{specs.Prelude.{slice_get}, specs.List.{enumerate_from, flat_map}, proofs.lemmas.List.{drop_all}, proofs.lemmas.List.FromFn.{length-enumerate_from}}
use Rattle.sequence_points.specs.{declared.point.Point.{Point}, Written.{first_of}}
use Rattle.ppdb_tables.{specs.declared.rows.MethodDebugRow.{MethodDebugRow}, specs.RawTables.{RawTables, numbered, row_at}, proofs.NumberedRows.{row_there}}
use Rattle.ppdb_values.specs.{Documents.{method_of}, Parts.{method_at}, RawFile.{RawFile}, Rows.{method_in}, Value.{value_of}}
use Rattle.ppdb_values.proofs.Rows.{method_is_row}
use Rattle.break_lines.specs.{declared.item.Break.{Break}, Walks.{breaks_of, breaks_by, breaks_at_row, breaks_now, breaks_left}}

method_is : (raw : RawFile) (m : ℕ) (row : MethodDebugRow) → row_at raw.tables.methods m ≡ Some row
    → method_of raw.tables (m, row) ≡ method_at (value_of raw) m
method_is raw m row there = ap (method_in raw.tables m) (sym there) ∙ sym (method_is_row raw m)

-- a method without points has no breaks
pub none_at : (raw : RawFile) (document line m : ℕ) (row : MethodDebugRow) → row_at raw.tables.methods m ≡ Some row → method_at (value_of raw) m ≡ None
    → [] ≡ breaks_at_row raw.tables document line (m, row)
none_at raw document line m row there none = sym (ap (breaks_by document line) (method_is raw m row there ∙ none))

pub some_at : (raw : RawFile) (document line m signature : ℕ) (points : List Point) (row : MethodDebugRow) → row_at raw.tables.methods m ≡ Some row
    → method_at (value_of raw) m ≡ Some (record { method = m; signature = signature; points = points })
    → breaks_of document line m points ≡ breaks_at_row raw.tables document line (m, row)
some_at raw document line m signature points row there some = sym (ap (breaks_by document line) (method_is raw m row there ∙ some))

pub from_row : {X : Type 0} (n : ℕ) (rows : List X) (i : ℕ) (x : X) → slice_get rows i ≡ Some x
    → drop i (enumerate_from n rows) ≡ (n + i, x) ∷ drop (suc i) (enumerate_from n rows)
from_row n [] i x e = cc
from_row n (y ∷ ys) zero x e = let k : n ≡ n + 0 = omega arith in let same : y ≡ x = cc in rw same (ap (λ m. (m, x) ∷ enumerate_from (n + 1) ys) k)
from_row n (y ∷ ys) (suc i) x e = let k : n + 1 + i ≡ n + suc i = omega arith in
    from_row (n + 1) ys i x e ∙ ap (λ m. (m, x) ∷ drop (suc i) (enumerate_from (n + 1) ys)) k

-- the breaks of the next method come before those of the methods after it
pub method_next : (raw : RawTables) (document line done method : ℕ) (now new : Option (List Break)) → method ≡ done + 1 → done < length raw.methods
    → breaks_now now ≡ []
    → ((row : MethodDebugRow) → row_at raw.methods method ≡ Some row → breaks_now new ≡ breaks_at_row raw document line (method, row))
    → (breaks_left raw document line new method).items ≡ (breaks_left raw document line now done).items
method_next raw document line done method now new is less none answers =
    let there = row_there raw.methods (suc done) (omega arith) (omega arith) in
    let next : method ≡ suc done = omega (arith, is) in
    let number : 1 + done ≡ suc done = omega arith in
    let step : drop done (numbered raw.methods) ≡ (suc done, there.0) ∷ drop (suc done) (numbered raw.methods) =
    from_row 1 raw.methods done there.0 there.1 ∙ ap (λ n. (n, there.0) ∷ drop (suc done) (numbered raw.methods)) number in
    let given : breaks_now new ≡ breaks_at_row raw document line (suc done, there.0) =
    answers there.0 (ap (row_at raw.methods) next ∙ there.1) ∙ ap (λ m. breaks_at_row raw document line (m, there.0)) next in
    ap (λ (l : List Break). l ++ flat_map (breaks_at_row raw document line) (drop method (numbered raw.methods))) given
    ∙ ap (λ m. breaks_at_row raw document line (suc done, there.0) ++ flat_map (breaks_at_row raw document line) (drop m (numbered raw.methods))) next
    ∙ sym (ap (λ (l : List (ℕ × MethodDebugRow)). flat_map (breaks_at_row raw document line) l) step)
    ∙ sym (ap (λ (l : List Break). l ++ flat_map (breaks_at_row raw document line) (drop done (numbered raw.methods))) none)

-- after the last method no breaks are left
pub none_after : (raw : RawTables) (document line done : ℕ) (now : Option (List Break)) → length raw.methods ≤ done → breaks_now now ≡ []
    → (breaks_left raw document line now done).items ≡ []
none_after raw document line done now past none =
    ap (λ (l : List Break). l ++ flat_map (breaks_at_row raw document line) (drop done (numbered raw.methods))) none
    ∙ ap (λ (l : List (ℕ × MethodDebugRow)). flat_map (breaks_at_row raw document line) l)
    (drop_all done (numbered raw.methods) (omega (arith, length-enumerate_from 1 raw.methods, past)))

-- where a list has no next item it is empty
pub none_left : (xs : List Break) (next : Option Break) → next ≡ first_of xs → ((x : Break) → next ≡ Some x → ⊥) → xs ≡ []
none_left [] next e never = refl
none_left (x ∷ xs) next e never = absurd (never x e)
