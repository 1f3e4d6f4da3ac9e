-- Records at their rows, one more at a time.
use Rattle.std.{proofs.Common.{◌≡◌, ℕ, ◌+◌, ◌++◌, Bool, true, false, cond, List, [], ◌∷◌, length, map, refl, sym, ap, ◌∙◌, arith}, specs.Prelude.{nat_lt}}
use Rattle.std.{specs.List.{filter, enumerate_from}, proofs.lemmas.List.{map-append}, proofs.lemmas.List.Elements.{filter-append}}
use Rattle.ppdb_values.specs.declared.{custom.CustomValue.{CustomValue}, annotation.Custom.{Custom}, annotation.Annotation.{Annotation}}
use Rattle.ppdb_values.specs.{Parts.{is_at}, Meaning.{without_parent}}
use Rattle.ppdb_merge_moved.specs.{declared.annotating.OnRows.{OnRows}, OnRows.{on_row, if_at, HasRows, IsPut, IsPlaced, HasAll, annotated_by}}

filter-push : {A : Type 0} (p : A → Bool) (xs : List A) (x : A) → filter p (xs ++ x ∷ []) ≡ filter p xs ++ cond (p x) (x ∷ []) []
filter-push p xs x = filter-append p xs (x ∷ []) ∙ ap (λ ys. filter p xs ++ ys) (by_test (p x))
  where
    by_test : (b : Bool) → cond b (x ∷ []) [] ≡ cond b (x ∷ []) []
    by_test b = refl

on_row-push : (customs : List CustomValue) (table row : ℕ) (custom : CustomValue)
    → on_row (customs ++ custom ∷ []) table row ≡ on_row customs table row ++ if_at table row custom
on_row-push customs table row custom =
    ap (map without_parent) (filter-push (λ (c : CustomValue). is_at table row c.parent) customs custom)
    ∙ map-append without_parent (filter (λ (c : CustomValue). is_at table row c.parent) customs) (cond (is_at table row custom.parent) (custom ∷ []) [])
    ∙ ap (λ xs. on_row customs table row ++ xs) (by_test (is_at table row custom.parent))
  where
    by_test : (b : Bool) → map without_parent (cond b (custom ∷ []) []) ≡ cond b (without_parent custom ∷ []) []
    by_test true = refl
    by_test false = refl

put_more : (customs : List CustomValue) (table rows : ℕ) (custom : CustomValue) (old new : List (List Custom)) → HasRows customs table rows old
    → IsPut table custom old new → HasRows (customs ++ custom ∷ []) table rows new
put_more customs table rows custom old new has put = record {
  rows_are = put.rows_are ∙ has.rows_are;
  each = λ k less. put.each k (let e : rows ≡ length old = sym has.rows_are in omega arith) ∙ ap (λ xs. xs ++ if_at table (k + 1) custom) (has.each k less)
      ∙ sym (on_row-push customs table (k + 1) custom);
}

pub placed_more : (customs : List CustomValue) (d s v c i : ℕ) (custom : CustomValue) (old new : OnRows) → HasAll customs d s v c i old
    → IsPlaced custom old new → HasAll (customs ++ custom ∷ []) d s v c i new
placed_more customs d s v c i custom old new has put = record {
  documents_are = put_more customs 0x30 d custom old.documents.items new.documents.items has.documents_are put.documents;
  scopes_are = put_more customs 0x32 s custom old.scopes.items new.scopes.items has.scopes_are put.scopes;
  variables_are = put_more customs 0x33 v custom old.variables.items new.variables.items has.variables_are put.variables;
  constants_are = put_more customs 0x34 c custom old.constants.items new.constants.items has.constants_are put.constants;
  imports_are = put_more customs 0x35 i custom old.imports.items new.imports.items has.imports_are put.imports;
  others_are = put.others ∙ ap (λ xs. xs ++ cond (nat_lt custom.parent.table 0x2d) (custom ∷ []) []) has.others_are
      ∙ sym (filter-push (λ (x : CustomValue). nat_lt x.parent.table 0x2d) customs custom);
}

enumerate-push : {X : Type 0} (n : ℕ) (xs : List X) (x : X) → enumerate_from n (xs ++ x ∷ []) ≡ enumerate_from n xs ++ (n + length xs, x) ∷ []
enumerate-push n [] x = ap (λ m. (m, x) ∷ []) (let e : n ≡ n + 0 = omega arith in e)
enumerate-push n (y ∷ ys) x = ap (λ more. (n, y) ∷ more)
    (enumerate-push (n + 1) ys x ∙ ap (λ m. enumerate_from (n + 1) ys ++ (m, x) ∷ []) (let e : (n + 1) + length ys ≡ n + length (y ∷ ys) = omega arith in e))

pub annotated_more : {X : Type 0} (on : ℕ → List Custom) (first : ℕ) (xs : List X) (x : X) (customs : List Custom) (row : ℕ) → row ≡ first + length xs
    → customs ≡ on row
    → let n : Annotation X = record { item = x; customs = customs } in annotated_by on first xs ++ n ∷ [] ≡ annotated_by on first (xs ++ x ∷ [])
annotated_more {X} on first xs x customs row at is =
    let f : ℕ × X → Annotation X = λ item. record { item = item.1; customs = on item.0 } in
    sym (ap (map f) (enumerate-push first xs x) ∙ map-append f (enumerate_from first xs) ((first + length xs, x) ∷ [])
    ∙ ap (λ (cs : List Custom). let n : Annotation X = record { item = x; customs = cs } in annotated_by on first xs ++ n ∷ []) (ap on (sym at) ∙ sym is))
