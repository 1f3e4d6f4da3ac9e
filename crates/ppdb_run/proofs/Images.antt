-- Images of rows: none is gone in a table that no map counts, and the number of an image tells its table.
use Rattle.std.proofs.Common.{◌≡◌, ℕ, ◌+◌, ◌*◌, ◌<◌, ◌⊎◌, ◌&&◌, Bool, true, false, cond, List, [], ◌∷◌, Option, Some, None, refl, sym, ◌∙◌, ap, inl, inr, arith}
use Rattle.std.{specs.Prelude.{nat_eq, IfSome}, specs.List.{find, AllByRecursion}, specs.Option.{option_map}, proofs.lemmas.Bool.{and_parts, eqb-true, ne_eqb}}
use Rattle.ppdb_maps.specs.declared.{entries.Count.{Count}, entries.CrossLine.{CrossLine}, image.RowImage.{RowImage}, image.RowImage.TheVariants.{Row, Missing}}
use Rattle.ppdb_maps.specs.{Forms.{Crosses, IsTypeTable}, Map.{Map, count_of, cross_line, has_gone_line, is_dropped, is_gone, line_image, row_image, row_line}}
use Rattle.ppdb_maps.specs.{Map.{said_image, is_gone_row}, Readable.{IsReadable, IsCount, IsCrossOf}}

-- ---- tables that no map counts

not_counted : (cs : List Count) → AllByRecursion IsCount cs → (table : ℕ) → 0x2c < table → find (λ (c : Count). nat_eq c.table table) cs ≡ None
not_counted [] all table high = refl
not_counted (c ∷ cs) all table high = step (nat_eq c.table table) refl (not_counted cs all.1 table high)
  where
    step : (b : Bool) → nat_eq c.table table ≡ b → find (λ (c : Count). nat_eq c.table table) cs ≡ None
        → cond b (Some c) (find (λ (c : Count). nat_eq c.table table) cs) ≡ None
    step true hit rest = let low = all.0.0 in let same = eqb-true c.table table hit in absurd (omega (arith, low, high, same))
    step false miss rest = rest

pub high_row : (m : Map) → IsReadable m → (table row : ℕ) → 0x2c < table → is_gone_row m table row ≡ false
high_row m ready table row high =
    ap (λ b. is_gone (cond (b && is_dropped m row) Missing
    (elim (count_of m table) as (λ _. RowImage) [ None ↦ Row table row | Some count ↦ line_image m table row ])))
    (ne_eqb table 0x06 (λ e. omega (arith, e, high)))
    ∙ ap (λ o. is_gone (elim o as (λ _. RowImage) [ None ↦ Row table row | Some count ↦ line_image m table row ]))
    (ap (option_map (λ (c : Count). c.rows)) (not_counted m.counts ready.counts table high))

-- ---- images as numbers

small_type : (table : ℕ) → IsTypeTable table → table < 0x100
small_type table (inl one) = omega (arith, one)
small_type table (inr (inl two)) = omega (arith, two)
small_type table (inr (inr spec)) = omega (arith, spec)

small_cross : (line : CrossLine) → Crosses line → (line.table < 0x100) × (line.to < 0x100)
small_cross line (inl types) = (small_type line.table types.0, small_type line.to types.1)
small_cross line (inr assembly) = let from = assembly.0 in let to = assembly.1 in (omega (arith, from), omega (arith, to))

-- an image is in the row's own table, or both tables are small
abbrev InOrSmall : ℕ → ℕ → Type 0
InOrSmall table to = (to ≡ table) ⊎ ((table < 0x100) × (to < 0x100))

found_cross : (m : Map) (table row : ℕ) (ls : List CrossLine) → AllByRecursion (IsCrossOf m) ls
    → IfSome (find (λ (l : CrossLine). nat_eq l.table table && nat_eq l.old row) ls) (λ l. (table < 0x100) × (l.to < 0x100))
found_cross m table row [] all = tt
found_cross m table row (l ∷ ls) all = step (nat_eq l.table table && nat_eq l.old row) refl (found_cross m table row ls all.1)
  where
    step : (b : Bool) → (nat_eq l.table table && nat_eq l.old row) ≡ b
        → IfSome (find (λ (l : CrossLine). nat_eq l.table table && nat_eq l.old row) ls) (λ l. (table < 0x100) × (l.to < 0x100))
        → IfSome (cond b (Some l) (find (λ (l : CrossLine). nat_eq l.table table && nat_eq l.old row) ls)) (λ l. (table < 0x100) × (l.to < 0x100))
    step false miss rest = rest
    step true hit rest =
        let same : l.table ≡ table = eqb-true l.table table (and_parts (nat_eq l.table table) (nat_eq l.old row) hit).0 in
        let small = small_cross l all.0.2 in
        let low = small.0 in
        (omega (arith, same, low), small.1)

table_of : (a b c d : ℕ) → Row a b ≡ Row c d → a ≡ c
table_of a b c d e = cc

image_in : (m : Map) → IsReadable m → (table row to image : ℕ) → row_image m table row ≡ Row to image → InOrSmall table to
image_in m ready table row to image is = by_drop (nat_eq table 0x06 && is_dropped m row) is
  where
    crossed : (o : Option CrossLine) → IfSome o (λ l. (table < 0x100) × (l.to < 0x100)) → (g : Bool) → said_image table None o g ≡ Row to image
        → InOrSmall table to
    crossed (Some line) holds g e = let same = table_of line.to line.new to image e in let low = holds.1 in inr (holds.0, omega (arith, same, low))
    crossed None holds true e = absurd cc
    crossed None holds false e = absurd cc

    by_row : (r : Option ℕ) → said_image table r (cross_line m table row) (has_gone_line m table row) ≡ Row to image → InOrSmall table to
    by_row (Some new) e = inl (sym (table_of table new to image e))
    by_row None e = crossed (cross_line m table row) (found_cross m table row m.crossed ready.crossed) (has_gone_line m table row) e

    by_count : (c : Option ℕ) → elim c as (λ _. RowImage) [ None ↦ Row table row | Some count ↦ line_image m table row ] ≡ Row to image → InOrSmall table to
    by_count None e = inl (sym (table_of table row to image e))
    by_count (Some count) e = by_row (row_line m table row) e

    by_drop : (b : Bool)
        → cond b Missing (elim (count_of m table) as (λ _. RowImage) [ None ↦ Row table row | Some count ↦ line_image m table row ]) ≡ Row to image
        → InOrSmall table to
    by_drop true e = absurd cc
    by_drop false e = by_count (count_of m table) e

-- two images of one table that are the same as numbers are the same
pub same_image : (m : Map) → IsReadable m → (table a b to image other number : ℕ) → row_image m table a ≡ Row to image → row_image m table b ≡ Row other number
    → image * 0x100 + to ≡ number * 0x100 + other → (to ≡ other) × (image ≡ number)
same_image m ready table a b to image other number is also keys =
    by (image_in m ready table a to image is) (image_in m ready table b other number also)
  where
    by : InOrSmall table to → InOrSmall table other → (to ≡ other) × (image ≡ number)
    by (inl one) (inl two) = (omega (arith, one, two), omega (arith, one, two, keys))
    by (inl one) (inr two) = let p = two.0 in let q = two.1 in (omega (arith, one, p, q, keys), omega (arith, one, p, q, keys))
    by (inr one) (inl two) = let p = one.0 in let q = one.1 in (omega (arith, two, p, q, keys), omega (arith, two, p, q, keys))
    by (inr one) (inr two) = let p = one.1 in let q = two.1 in (omega (arith, p, q, keys), omega (arith, p, q, keys))
