-- The references stand in the order of their places.
use Rattle.std.proofs.Common.{◌≡◌, ℕ, zero, suc, add-one, ◌≤◌, inl, inr, List, [], ◌∷◌, ◌++◌, Option, Some, None, slice_get, refl, subst, arith}
use Rattle.std.specs.List.{flat_map, enumerate_from}
use Rattle.ppdb_base.{specs.declared.code.Code.TheVariants.{SpanTotal}, specs.Place.{ComesBefore, numbers}, proofs.Judging.{comes_before_trans}}
use Rattle.blob_grammar.specs.declared.places.PlacedIndex.{PlacedIndex}
use Rattle.ppdb_heaps.specs.{Heaps.{blob_at}, Names.{name_indexes}}
use Rattle.ppdb_tables.specs.declared.rows.{ConstantRow.{ConstantRow}, DocumentRow.{DocumentRow}, ImportRow.{ImportRow}}
use Rattle.ppdb_tables.specs.RawTables.{RawTables}
use Rattle.type_blobs.specs.Imports.{import_indexes}
use Rattle.ppdb_verify_total.{proofs.Ascending.{Ascends, names_ascend, imports_ascend}, specs.HeapUses.{HeapUse, blob_in, text_in, named_inside, in_name}}
use Rattle.ppdb_verify_total.{specs.HeapUses.{in_imports, of_document, of_method, of_variable, of_constant, of_import, of_custom, heap_uses}, proofs.Sums.{Rises}}
use Rattle.ppdb_verify_rules.specs.Blobs.{type_limits}

abbrev key : HeapUse → List ℕ
key r = numbers SpanTotal r.at

abbrev pub Each : (HeapUse → Type 0) → List HeapUse → Type 0
Each P [] = Unit {0}
Each P (r ∷ rs) = P r × Each P rs

-- each reference follows those before it
abbrev Ordered : List HeapUse → Type 0
Ordered [] = Unit {0}
Ordered (r ∷ rs) = Each (λ s. ComesBefore (key s) (key r) → ⊥) rs × Ordered rs

pub each-append : (P : HeapUse → Type 0) (xs ys : List HeapUse) → Each P xs → Each P ys → Each P (xs ++ ys)
each-append P [] ys a b = b
each-append P (x ∷ xs) ys a b = (a.0, each-append P xs ys a.1 b)

each-weaker : (P Q : HeapUse → Type 0) (xs : List HeapUse) → ((r : HeapUse) → P r → Q r) → Each P xs → Each Q xs
each-weaker P Q [] f a = tt
each-weaker P Q (x ∷ xs) f a = (f x a.0, each-weaker P Q xs f a.1)

-- lists of which the one ends where the other begins
ordered-append : (mid : List ℕ) (xs ys : List HeapUse) → Ordered xs → Ordered ys → Each (λ r. ComesBefore (key r) mid) xs
    → Each (λ r. ComesBefore (key r) mid → ⊥) ys → Ordered (xs ++ ys)
ordered-append mid [] ys a b before after = b
ordered-append mid (x ∷ xs) ys a b before after = (
  each-append (λ s. ComesBefore (key s) (key x) → ⊥) xs ys a.0
      (each-weaker (λ r. ComesBefore (key r) mid → ⊥) (λ s. ComesBefore (key s) (key x)
      → ⊥) ys (λ s not early. not (comes_before_trans (key s) (key x) mid early before.0)) after),
  ordered-append mid xs ys a.1 b before.1 after,
)

-- ordered, from the one place on and before the other
record Between (low high : List ℕ) (rs : List HeapUse) : Type 0 where
  ordered : Ordered rs
  after : Each (λ r. ComesBefore (key r) low → ⊥) rs
  before : Each (λ r. ComesBefore (key r) high) rs

between-append : (low mid high : List ℕ) (xs ys : List HeapUse) → ((k : List ℕ) → ComesBefore k low → ComesBefore k mid)
    → ((k : List ℕ) → ComesBefore k mid → ComesBefore k high)
    → Between low mid xs → Between mid high ys → Between low high (xs ++ ys)
between-append low mid high xs ys down up a b = record {
  ordered = ordered-append mid xs ys a.ordered b.ordered a.before b.after;
  after = each-append (λ r. ComesBefore (key r) low → ⊥) xs ys a.after
      (each-weaker (λ r. ComesBefore (key r) mid → ⊥) (λ r. ComesBefore (key r) low → ⊥) ys (λ r not early. not (down (key r) early)) b.after);
  before = each-append (λ r. ComesBefore (key r) high) xs ys
      (each-weaker (λ r. ComesBefore (key r) mid) (λ r. ComesBefore (key r) high) xs (λ r early. up (key r) early) a.before) b.before;
}

-- a reference of a row
record IsOf (table row : ℕ) (r : HeapUse) : Type 0 where
  part : r.at.part ≡ 5
  in_table : r.at.table ≡ table
  in_row : r.at.row ≡ row

row_between : (table row : ℕ) (rs : List HeapUse) → Ordered rs → Each (IsOf table row) rs → Between (5 ∷ table ∷ row ∷ []) (5 ∷ table ∷ suc row ∷ []) rs
row_between table row rs ordered of = record {
  ordered = ordered;
  after = each-weaker (IsOf table row) (λ r. ComesBefore (key r) (5 ∷ table ∷ row ∷ []) → ⊥) rs not_early of;
  before = each-weaker (IsOf table row) (λ r. ComesBefore (key r) (5 ∷ table ∷ suc row ∷ [])) rs early of;
}
  where
    not_early : (r : HeapUse) → IsOf table row r → ComesBefore (key r) (5 ∷ table ∷ row ∷ []) → ⊥
    not_early r o h = let p = o.part in let t = o.in_table in let w = o.in_row in grind arith

    early : (r : HeapUse) → IsOf table row r → ComesBefore (key r) (5 ∷ table ∷ suc row ∷ [])
    early r o = inr (o.part, inr (o.in_table, inl (let w = o.in_row in omega (arith, w))))

-- the rows of a table
rows_between : {X : Type 0} (table : ℕ) (of_row : ℕ × X → List HeapUse)
    → ((row : ℕ) (x : X) → Between (5 ∷ table ∷ row ∷ []) (5 ∷ table ∷ suc row ∷ []) (of_row (row, x)))
    → (xs : List X) (row : ℕ) → Between (5 ∷ table ∷ row ∷ []) (5 ∷ suc table ∷ []) (flat_map of_row (enumerate_from row xs))
rows_between table of_row each [] row = record { ordered = tt; after = tt; before = tt }
rows_between table of_row each (x ∷ xs) row = rw add-one (
    between-append (5 ∷ table ∷ row ∷ []) (5 ∷ table ∷ suc row ∷ []) (5 ∷ suc table ∷ []) (of_row (row, x)) (flat_map of_row (enumerate_from (suc row) xs))
    (down table row) (up table row) (each row x) (rows_between table of_row each xs (suc row)))
  where
    down : (table row : ℕ) (k : List ℕ) → ComesBefore k (5 ∷ table ∷ row ∷ []) → ComesBefore k (5 ∷ table ∷ suc row ∷ [])
    down table row [] h = tt
    down table row (a ∷ []) h = grind arith
    down table row (a ∷ b ∷ []) h = grind arith
    down table row (a ∷ b ∷ c ∷ k) h = grind arith

    up : (table row : ℕ) (k : List ℕ) → ComesBefore k (5 ∷ table ∷ suc row ∷ []) → ComesBefore k (5 ∷ suc table ∷ [])
    up table row [] h = tt
    up table row (a ∷ []) h = grind arith
    up table row (a ∷ b ∷ []) h = grind arith
    up table row (a ∷ b ∷ c ∷ k) h = grind arith

-- ---- the references inside a blob

record IsInside (table row column from : ℕ) (r : HeapUse) : Type 0 where
  of : IsOf table row r
  in_column : r.at.column ≡ column
  from_byte : from ≤ r.at.byte

module _ (raw : RawTables) (table row column : ℕ) where
  wider : (at next : ℕ) → at ≤ next → (s : HeapUse) → IsInside table row column next s → IsInside table row column at s
  wider at next le s i = record { of = i.of; in_column = i.in_column; from_byte = let b = i.from_byte in omega (arith, b, le) }

  later : (at : ℕ) (s : HeapUse) → IsInside table row column at s → ComesBefore (key s) (5 ∷ table ∷ row ∷ column ∷ at ∷ 40 ∷ []) → ⊥
  later at s i early = let p = i.of.part in let t = i.of.in_table in let w = i.of.in_row in let c = i.in_column in let b = i.from_byte in grind arith

  inside_ordered : (from : ℕ) (indexes : List PlacedIndex) → Ascends from indexes
      → (Ordered (named_inside raw.blobs table row column indexes)) × (Each (IsInside table row column from) (named_inside raw.blobs table row column indexes))
  inside_ordered from [] h = (tt, tt)
  inside_ordered from (x ∷ xs) h =
      let inner = inside_ordered x.byte xs h.1 in
      let rest : List HeapUse = named_inside raw.blobs table row column xs in (
        (
          each-weaker (IsInside table row column x.byte) (λ s. ComesBefore (key s) (5 ∷ table ∷ row ∷ column ∷ x.byte ∷ 40 ∷ [])
              → ⊥) rest (later x.byte) inner.1,
          inner.0,
        ),
        (
          record { of = record { part = refl; in_table = refl; in_row = refl }; in_column = refl; from_byte = h.0 },
          each-weaker (IsInside table row column x.byte) (IsInside table row column from) rest (wider from x.byte h.0) inner.1,
        ),
      )

-- ---- the rows of each table

module _ (raw : RawTables) (row : ℕ) where
  of_inside : (table column from : ℕ) (r : HeapUse) → IsInside table row column from r → IsOf table row r
  of_inside table column from r i = i.of

  name_ordered : (d : DocumentRow) → Ordered (named_inside raw.blobs 0x30 row 0 (in_name raw (blob_at raw.blobs d.name))) × Each (IsInside 0x30 row 0 0)
      (named_inside raw.blobs 0x30 row 0 (in_name raw (blob_at raw.blobs d.name)))
  name_ordered d = split (blob_at raw.blobs d.name)
    where
      split : (content : Option (List ℕ)) → Ordered (named_inside raw.blobs 0x30 row 0 (in_name raw content)) × Each (IsInside 0x30 row 0 0)
          (named_inside raw.blobs 0x30 row 0 (in_name raw content))
      split None = (tt, tt)
      split (Some bytes) = inside_ordered raw 0x30 row 0 0 (name_indexes raw.blobs bytes) (names_ascend raw.blobs bytes)

  imports_ordered : (i : ImportRow) → Ordered (named_inside raw.blobs 0x35 row 1 (in_imports raw (blob_at raw.blobs i.imports))) × Each (IsInside 0x35 row 1 0)
      (named_inside raw.blobs 0x35 row 1 (in_imports raw (blob_at raw.blobs i.imports)))
  imports_ordered i = split (blob_at raw.blobs i.imports)
    where
      split : (content : Option (List ℕ)) → Ordered (named_inside raw.blobs 0x35 row 1 (in_imports raw content)) × Each (IsInside 0x35 row 1 0)
          (named_inside raw.blobs 0x35 row 1 (in_imports raw content))
      split None = (tt, tt)
      split (Some bytes) = inside_ordered raw 0x35 row 1 0 (import_indexes (type_limits raw) (blob_at raw.blobs) bytes)
          (imports_ascend (type_limits raw) (blob_at raw.blobs) bytes)

  document_between : (d : DocumentRow) → Between (5 ∷ 0x30 ∷ row ∷ []) (5 ∷ 0x30 ∷ suc row ∷ []) (of_document raw (row, d))
  document_between d =
      let inside = name_ordered d in
      let inner : List HeapUse = named_inside raw.blobs 0x30 row 0 (in_name raw (blob_at raw.blobs d.name)) in
      let hash : List HeapUse = blob_in raw 0x30 row 2 d.hash ∷ [] in
      row_between 0x30 row (of_document raw (row, d)) (
        each-append (λ s. ComesBefore (key s) (5 ∷ 0x30 ∷ row ∷ 0 ∷ 0 ∷ 40 ∷ []) → ⊥) inner hash
            (each-weaker (IsInside 0x30 row 0 0) (λ s. ComesBefore (key s) (5 ∷ 0x30 ∷ row ∷ 0 ∷ 0 ∷ 40 ∷ []) → ⊥) inner not_before inside.1)
            ((λ (early : ComesBefore (5 ∷ 0x30 ∷ row ∷ 2 ∷ 0 ∷ 40 ∷ []) (5 ∷ 0x30 ∷ row ∷ 0 ∷ 0 ∷ 40 ∷ [])). grind arith), tt),
        ordered-append (5 ∷ 0x30 ∷ row ∷ 1 ∷ []) inner hash inside.0 (tt, tt)
            (each-weaker (IsInside 0x30 row 0 0) (λ s. ComesBefore (key s) (5 ∷ 0x30 ∷ row ∷ 1 ∷ [])) inner (λ s i.
            inr (i.of.part, inr (i.of.in_table, inr (i.of.in_row, inl (let c = i.in_column in omega (arith, c)))))) inside.1)
            ((λ (early : ComesBefore (5 ∷ 0x30 ∷ row ∷ 2 ∷ 0 ∷ 40 ∷ []) (5 ∷ 0x30 ∷ row ∷ 1 ∷ [])). grind arith), tt),
      ) (
        record { part = refl; in_table = refl; in_row = refl },
        each-append (IsOf 0x30 row) inner hash (each-weaker (IsInside 0x30 row 0 0) (IsOf 0x30 row) inner (of_inside 0x30 0 0) inside.1)
            (record { part = refl; in_table = refl; in_row = refl }, tt),
      )
    where
      not_before : (s : HeapUse) → IsInside 0x30 row 0 0 s → ComesBefore (key s) (5 ∷ 0x30 ∷ row ∷ 0 ∷ 0 ∷ 40 ∷ []) → ⊥
      not_before s i early = let p = i.of.part in let t = i.of.in_table in let w = i.of.in_row in let c = i.in_column in grind arith

  import_between : (i : ImportRow) → Between (5 ∷ 0x35 ∷ row ∷ []) (5 ∷ 0x35 ∷ suc row ∷ []) (of_import raw (row, i))
  import_between i =
      let inside = imports_ordered i in
      let inner : List HeapUse = named_inside raw.blobs 0x35 row 1 (in_imports raw (blob_at raw.blobs i.imports)) in
      row_between 0x35 row (of_import raw (row, i))
      (each-weaker (IsInside 0x35 row 1 0) (λ s. ComesBefore (key s) (5 ∷ 0x35 ∷ row ∷ 1 ∷ 0 ∷ 40 ∷ []) → ⊥) inner not_before inside.1, inside.0)
      (record { part = refl; in_table = refl; in_row = refl }, each-weaker (IsInside 0x35 row 1 0) (IsOf 0x35 row) inner (of_inside 0x35 1 0) inside.1)
    where
      not_before : (s : HeapUse) → IsInside 0x35 row 1 0 s → ComesBefore (key s) (5 ∷ 0x35 ∷ row ∷ 1 ∷ 0 ∷ 40 ∷ []) → ⊥
      not_before s x early = let p = x.of.part in let t = x.of.in_table in let w = x.of.in_row in let c = x.in_column in grind arith

one_between : (table row : ℕ) (r : HeapUse) → IsOf table row r → Between (5 ∷ table ∷ row ∷ []) (5 ∷ table ∷ suc row ∷ []) (r ∷ [])
one_between table row r of = row_between table row (r ∷ []) (tt, tt) (of, tt)

constant_between : (raw : RawTables) (row : ℕ) (c : ConstantRow) → Between (5 ∷ 0x34 ∷ row ∷ []) (5 ∷ 0x34 ∷ suc row ∷ []) (of_constant raw (row, c))
constant_between raw row c = row_between 0x34 row (of_constant raw (row, c))
    (((λ (early : ComesBefore (5 ∷ 0x34 ∷ row ∷ 1 ∷ 0 ∷ 40 ∷ []) (5 ∷ 0x34 ∷ row ∷ 0 ∷ 0 ∷ 40 ∷ [])). grind arith), tt), (tt, tt))
    (record { part = refl; in_table = refl; in_row = refl }, (record { part = refl; in_table = refl; in_row = refl }, tt))

-- from table to table
next_tables : (low mid high : ℕ) (xs ys : List HeapUse) → low ≤ mid → mid ≤ high → Between (5 ∷ low ∷ 1 ∷ []) (5 ∷ mid ∷ []) xs
    → Between (5 ∷ mid ∷ []) (5 ∷ high ∷ []) ys
    → Between (5 ∷ low ∷ []) (5 ∷ high ∷ []) (xs ++ ys)
next_tables low mid high xs ys a b one other = between-append (5 ∷ low ∷ []) (5 ∷ mid ∷ []) (5 ∷ high ∷ []) xs ys (down low mid a) (down mid high b)
    (record {
      ordered = one.ordered;
      after = each-weaker (λ r. ComesBefore (key r) (5 ∷ low ∷ 1 ∷ []) → ⊥) (λ r. ComesBefore (key r) (5 ∷ low ∷ [])
          → ⊥) xs (λ r not early. not (further low (key r) early)) one.after;
      before = one.before;
    }) other
  where
    down : (low mid : ℕ) → low ≤ mid → (k : List ℕ) → ComesBefore k (5 ∷ low ∷ []) → ComesBefore k (5 ∷ mid ∷ [])
    down low mid le [] h = tt
    down low mid le (a ∷ []) h = grind arith
    down low mid le (a ∷ b ∷ k) h = grind arith

    further : (low : ℕ) (k : List ℕ) → ComesBefore k (5 ∷ low ∷ []) → ComesBefore k (5 ∷ low ∷ 1 ∷ [])
    further low [] h = tt
    further low (a ∷ []) h = grind arith
    further low (a ∷ b ∷ []) h = grind arith
    further low (a ∷ b ∷ c ∷ k) h = grind arith

from_1 : {X : Type 0} (table : ℕ) (of_row : ℕ × X → List HeapUse)
    → ((row : ℕ) (x : X) → Between (5 ∷ table ∷ row ∷ []) (5 ∷ table ∷ suc row ∷ []) (of_row (row, x)))
    → (xs : List X) → Between (5 ∷ table ∷ 1 ∷ []) (5 ∷ suc table ∷ []) (flat_map of_row (enumerate_from 1 xs))
from_1 table of_row each xs = rows_between table of_row each xs 1

at_index : (rs : List HeapUse) → Ordered rs → Rises rs
at_index [] o i j a b lt there at = let w : None ≡ Some a = there in cc
at_index (r ∷ rs) o zero zero a b lt there at = absurd (omega (arith, lt))
at_index (r ∷ rs) o zero (suc j) a b lt there at =
    let same : r ≡ a = cc in
    subst (λ (x : HeapUse). ComesBefore (key b) (key x) → ⊥) same (of_each rs j b o.0 at)
  where
    of_each : (rs : List HeapUse) (j : ℕ) (b : HeapUse) → Each (λ s. ComesBefore (key s) (key r) → ⊥) rs → slice_get rs j ≡ Some b
        → ComesBefore (key b) (key r) → ⊥
    of_each [] j b e at = let w : None ≡ Some b = at in cc
    of_each (x ∷ xs) zero b e at = let same : x ≡ b = cc in subst (λ (y : HeapUse). ComesBefore (key y) (key r) → ⊥) same e.0
    of_each (x ∷ xs) (suc j) b e at = of_each xs j b e.1 at
at_index (r ∷ rs) o (suc i) zero a b lt there at = absurd (omega (arith, lt))
at_index (r ∷ rs) o (suc i) (suc j) a b lt there at = at_index rs o.1 i j a b (omega (arith, lt)) there at

pub rising : (raw : RawTables) → Rises (heap_uses raw)
unfolding heap_uses
rising raw = at_index (heap_uses raw) (
    next_tables 0x30 0x31 0x38 (flat_map (of_document raw) (enumerate_from 1 raw.documents)) _ (omega arith) (omega arith)
    (from_1 0x30 (of_document raw) (document_between raw) raw.documents)
    (next_tables 0x31 0x33 0x38 (flat_map (of_method raw) (enumerate_from 1 raw.methods)) _ (omega arith) (omega arith)
    (wider 0x32 0x33 (flat_map (of_method raw) (enumerate_from 1 raw.methods)) (omega arith)
    (from_1 0x31 (of_method raw) (λ row x. one_between 0x31 row (blob_in raw 0x31 row 1 x.points) (record { part = refl; in_table = refl; in_row = refl }))
    raw.methods))
    (next_tables 0x33 0x34 0x38 (flat_map (of_variable raw) (enumerate_from 1 raw.variables)) _ (omega arith) (omega arith)
    (from_1 0x33 (of_variable raw) (λ row x. one_between 0x33 row (text_in raw 0x33 row 2 x.name) (record { part = refl; in_table = refl; in_row = refl }))
    raw.variables)
    (next_tables 0x34 0x35 0x38 (flat_map (of_constant raw) (enumerate_from 1 raw.constants)) _ (omega arith) (omega arith)
    (from_1 0x34 (of_constant raw) (constant_between raw) raw.constants)
    (next_tables 0x35 0x37 0x38 (flat_map (of_import raw) (enumerate_from 1 raw.imports)) _ (omega arith) (omega arith)
    (wider 0x36 0x37 (flat_map (of_import raw) (enumerate_from 1 raw.imports)) (omega arith) (from_1 0x35 (of_import raw) (import_between raw) raw.imports))
    (widest (flat_map (of_custom raw) (enumerate_from 1 raw.customs))
    (from_1 0x37 (of_custom raw) (λ row x. one_between 0x37 row (blob_in raw 0x37 row 2 x.value) (record { part = refl; in_table = refl; in_row = refl }))
    raw.customs))))))
    ).ordered
  where
    wider : (table next : ℕ) (xs : List HeapUse) → table ≤ next → {low : List ℕ} → Between low (5 ∷ table ∷ []) xs → Between low (5 ∷ next ∷ []) xs
    wider table next xs le b = record {
      ordered = b.ordered;
      after = b.after;
      before = each-weaker (λ r. ComesBefore (key r) (5 ∷ table ∷ [])) (λ r. ComesBefore (key r) (5 ∷ next ∷ [])) xs (λ r early. up (key r) early) b.before;
    }
      where
        up : (k : List ℕ) → ComesBefore k (5 ∷ table ∷ []) → ComesBefore k (5 ∷ next ∷ [])
        up [] h = tt
        up (a ∷ []) h = grind arith
        up (a ∷ c ∷ k) h = grind arith

    widest : (xs : List HeapUse) → Between (5 ∷ 0x37 ∷ 1 ∷ []) (5 ∷ 0x38 ∷ []) xs → Between (5 ∷ 0x37 ∷ []) (5 ∷ 0x38 ∷ []) xs
    widest xs b = record {
      ordered = b.ordered;
      after = each-weaker (λ r. ComesBefore (key r) (5 ∷ 0x37 ∷ 1 ∷ []) → ⊥) (λ r. ComesBefore (key r) (5 ∷ 0x37 ∷ [])
          → ⊥) xs (λ r not early. not (further (key r) early)) b.after;
      before = b.before;
    }
      where
        further : (k : List ℕ) → ComesBefore k (5 ∷ 0x37 ∷ []) → ComesBefore k (5 ∷ 0x37 ∷ 1 ∷ [])
        further [] h = tt
        further (a ∷ []) h = grind arith
        further (a ∷ c ∷ []) h = grind arith
        further (a ∷ c ∷ d ∷ k) h = grind arith
