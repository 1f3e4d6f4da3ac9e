-- The map of two maps has lines of rows that leave their table exactly where some row leaves it by both.
use Rattle.std.proofs.Common.{ℕ, zero, suc, ◌≡◌, ◌+◌, ◌<◌, ◌≤◌, ◌&&◌, ◌||◌, ◌++◌, Bool, true, false, cond, List, [], ◌∷◌, Option, Some, None, refl, sym, ap, ◌∙◌}
use Rattle.std.{proofs.Common.{subst, arith, inl, inr}, specs.Prelude.{not, nat_eq, is_some}, specs.List.{cons_option, filter_map, find, flat_map, list_any}}
use Rattle.std.{specs.List.{range_with_len, slice_get}, specs.Option.{option_or}, proofs.lemmas.Bool.{false≢true, eq-eqb, eqb-true}}
use Rattle.ppdb_maps.specs.declared.{entries.CrossLine.{CrossLine}, image.RowImage.{RowImage}, image.RowImage.TheVariants.{Row, Gone, Missing}}
use Rattle.ppdb_maps.{specs.Map.{Map, count_of, row_line, has_gone_line, said_image, line_image, row_image, is_dropped}, proofs.OneMap.{same_or_apart}}
use Rattle.ppdb_maps_text.specs.MapTexts.{has_items, olds_of}
use Rattle.map_compose.specs.Composed.{tables, composed, composed_count, image_then, own_assembly, composed_image, sources, sources_of, cross_lined, gone_lined}
use Rattle.map_compose.specs.{Composed.{cross_entries, gone_entries}, Leaving.{has_leaving, leaves, rows_leave}, Parts.{source}}
use Rattle.map_compose.proofs.{Imaging.{by_image}, Putting.{range_more}}

-- ---- lists that are made

items_join : {X : Type 0} (xs ys : List X) → has_items (xs ++ ys) ≡ (has_items xs || has_items ys)
items_join [] ys = refl
items_join (x ∷ xs) ys = refl

items_flat : {X : Type 0} (make : ℕ → List X) (ns : List ℕ) → has_items (flat_map make ns) ≡ list_any (λ n. has_items (make n)) ns
items_flat make [] = refl
items_flat make (n ∷ ns) = items_join (make n) (flat_map make ns) ∙ ap (λ b. has_items (make n) || b) (items_flat make ns)

items_made : {X : Type 0} (make : ℕ → Option X) (ns : List ℕ) → has_items (filter_map make ns) ≡ list_any (λ n. is_some (make n)) ns
items_made make [] = refl
items_made {X} make (n ∷ ns) = of (make n) (items_made make ns)
  where
    of : (o : Option X) → has_items (filter_map make ns) ≡ list_any (λ n. is_some (make n)) ns
        → has_items (cons_option o (filter_map make ns)) ≡ (is_some o || list_any (λ n. is_some (make n)) ns)
    of None rest = rest
    of (Some x) rest = refl

any_or : (p q : ℕ → Bool) (ns : List ℕ) → (list_any p ns || list_any q ns) ≡ list_any (λ n. p n || q n) ns
any_or p q [] = refl
any_or p q (n ∷ ns) = swap (p n) (list_any p ns) (q n) (list_any q ns) ∙ ap (λ b. (p n || q n) || b) (any_or p q ns)
  where
    swap : (a b c d : Bool) → ((a || b) || (c || d)) ≡ ((a || c) || (b || d))
    swap true b c d = refl
    swap false true true d = refl
    swap false true false d = refl
    swap false false c d = refl

any_same : (p q : ℕ → Bool) → ((n : ℕ) → p n ≡ q n) → (ns : List ℕ) → list_any p ns ≡ list_any q ns
any_same p q same [] = refl
any_same p q same (n ∷ ns) = ap (λ b. b || list_any p ns) (same n) ∙ ap (λ b. q n || b) (any_same p q same ns)

leaves_is : (table old : ℕ) (image : RowImage) → (is_some (cross_lined table old image) || is_some (gone_lined table old image)) ≡ leaves table image
leaves_is table old Gone = refl
leaves_is table old Missing = refl
leaves_is table old (Row to new) = of (nat_eq to table)
  where
    of : (b : Bool) → (is_some {T = CrossLine} (cond b None (Some (record { table = table; old = old; to = to; new = new }))) || false) ≡ cond b false true
    of true = refl
    of false = refl

pub leaving : (f s : Map) → (has_items (composed f s).crossed || has_items (composed f s).gone) ≡ list_any (rows_leave f s) tables
leaving f s =
    ap (λ b. b || has_items (composed f s).gone) (items_flat (cross_entries f s) tables)
    ∙ ap (λ b. list_any (λ t. has_items (cross_entries f s t)) tables || b) (items_flat (gone_entries f s) tables)
    ∙ any_or (λ t. has_items (cross_entries f s t)) (λ t. has_items (gone_entries f s t)) tables ∙ any_same _ (rows_leave f s) each tables
  where
    each : (t : ℕ) → (has_items (cross_entries f s t) || has_items (gone_entries f s t)) ≡ rows_leave f s t
    each t =
        ap (λ b. b || has_items (gone_entries f s t)) (items_made (λ o. cross_lined t o (composed_image f s t o)) (sources_of f s t))
        ∙ ap (λ b. list_any (λ o. is_some (cross_lined t o (composed_image f s t o))) (sources_of f s t) || b)
        (items_made (λ o. gone_lined t o (composed_image f s t o)) (sources_of f s t))
        ∙ any_or (λ o. is_some (cross_lined t o (composed_image f s t o))) (λ o. is_some (gone_lined t o (composed_image f s t o))) (sources_of f s t)
        ∙ any_same _ (λ o. leaves t (composed_image f s t o)) (λ o. leaves_is t o (composed_image f s t o)) (sources_of f s t)

-- ---- maps without such lines

empty_first : {X : Type 0} (xs : List X) → is_some (slice_get xs 0) ≡ false → xs ≡ []
empty_first [] is = refl
empty_first (x ∷ xs) is = absurd (cc)

none_leaving : (m : Map) → has_leaving m ≡ false → (m.crossed ≡ []) × (m.gone ≡ [])
none_leaving m is = of (is_some (slice_get m.crossed 0)) (is_some (slice_get m.gone 0)) refl refl is
  where
    of : (a b : Bool) → is_some (slice_get m.crossed 0) ≡ a → is_some (slice_get m.gone 0) ≡ b → (a || b) ≡ false → (m.crossed ≡ []) × (m.gone ≡ [])
    of false false x y is = (empty_first m.crossed x, empty_first m.gone y)
    of true b x y is = absurd (false≢true (sym is))
    of false true x y is = absurd (false≢true (sym is))

row_stays : (m : Map) → m.crossed ≡ [] → m.gone ≡ [] → (table old : ℕ) → leaves table (row_image m table old) ≡ false
row_stays m crossed gone table old = by (nat_eq table 0x06 && is_dropped m old) (count_of m table)
  where
    itself : (row : ℕ) → leaves table (Row table row) ≡ false
    itself row = ap (λ b. cond b false true) (eq-eqb table table refl)

    lined : (a : Option ℕ) → leaves table (said_image table a None false) ≡ false
    lined None = refl
    lined (Some new) = itself new

    line : leaves table (line_image m table old) ≡ false
    line =
        ap (λ b. leaves table (said_image table (row_line m table old) b (has_gone_line m table old)))
        (ap (find (λ (r : CrossLine). nat_eq r.table table && nat_eq r.old old)) crossed)
        ∙ ap (λ b. leaves table (said_image table (row_line m table old) None b))
        (ap (list_any (λ r. nat_eq r.table table && nat_eq r.old old)) gone)
        ∙ lined (row_line m table old)

    by : (b : Bool) (c : Option ℕ) → leaves table (by_image table old (line_image m table old) b c) ≡ false
    by true c = refl
    by false None = itself old
    by false (Some n) = line

none_leave : (f s : Map) → f.crossed ≡ [] → f.gone ≡ [] → s.crossed ≡ [] → s.gone ≡ [] → list_any (rows_leave f s) tables ≡ false
none_leave f s a b c d = all tables
  where
    own : (table : ℕ) (image : RowImage) → leaves table image ≡ false → leaves table (own_assembly table image) ≡ false
    own table Gone is = is
    own table Missing is = is
    own table (Row to row) is = of (nat_eq table 0x23 && (nat_eq to 0x20 && not (nat_eq row 1)))
      where
        of : (b : Bool) → leaves table (cond b Missing (Row to row)) ≡ false
        of true = refl
        of false = is

    then_stays : (table : ℕ) (image : RowImage) → leaves table image ≡ false → leaves table (image_then s image) ≡ false
    then_stays table Gone is = is
    then_stays table Missing is = is
    then_stays table (Row to row) is = of (nat_eq to table) refl is
      where
        of : (b : Bool) → nat_eq to table ≡ b → cond b false true ≡ false → leaves table (row_image s to row) ≡ false
        of true hit is = subst (λ t. leaves table (row_image s t row) ≡ false) (sym (eqb-true to table hit)) (row_stays s c d table row)
        of false miss is = absurd (false≢true (sym is))

    none : (table : ℕ) (os : List ℕ) → list_any (λ o. leaves table (composed_image f s table o)) os ≡ false
    none table [] = refl
    none table (o ∷ os) =
        ap (λ t. t || list_any (λ o. leaves table (composed_image f s table o)) os)
        (own table (image_then s (row_image f table o)) (then_stays table (row_image f table o) (row_stays f a b table o)))
        ∙ none table os

    all : (ts : List ℕ) → list_any (rows_leave f s) ts ≡ false
    all [] = refl
    all (t ∷ ts) = ap (λ x. x || list_any (rows_leave f s) ts) (none t (sources_of f s t)) ∙ all ts

pub none_both_leave : (f s : Map) → (has_leaving f || has_leaving s) ≡ false → list_any (rows_leave f s) tables ≡ false
none_both_leave f s is =
    let a = none_leaving f (first (has_leaving f) (has_leaving s) is) in
    let b = none_leaving s (second (has_leaving f) (has_leaving s) is) in
    none_leave f s a.0 a.1 b.0 b.1
  where
    first : (x y : Bool) → (x || y) ≡ false → x ≡ false
    first true y is = is
    first false y is = refl

    second : (x y : Bool) → (x || y) ≡ false → y ≡ false
    second true y is = absurd (false≢true (sym is))
    second false y is = is

-- ---- the rows of which a line may speak

-- they are those of one of the maps, where the table has a count by both
pub sources_are : (f s : Map) (table : ℕ) → is_some (composed_count f s table) ≡ true → sources_of f s table ≡ olds_of (source f s table) table
sources_are f s table some = of (count_of f table) (count_of s table) some
  where
    of : (a b : Option ℕ) → is_some (option_or b a) ≡ true → sources a b f s table ≡ olds_of (cond (is_some a) f s) table
    of (Some n) b some = refl
    of None (Some n) some = refl
    of None None some = absurd (false≢true some)

pub none_counted : (f s : Map) (table : ℕ) → composed_count f s table ≡ None → rows_leave f s table ≡ false
none_counted f s table none = of (count_of f table) (count_of s table) none
  where
    of : (x y : Option ℕ) → option_or y x ≡ None → list_any (λ o. leaves table (composed_image f s table o)) (sources x y f s table) ≡ false
    of None None is = refl
    of (Some n) None is = absurd (cc)
    of x (Some n) is = absurd (cc)

-- the next row decides, or those after it
pub any_next : (p : ℕ → Bool) (n : ℕ) (ns : List ℕ) → p n ≡ false → list_any p (n ∷ ns) ≡ list_any p ns
any_next p n ns is = ap (λ b. b || list_any p ns) is

pub any_this : (p : ℕ → Bool) (n : ℕ) (ns : List ℕ) → p n ≡ true → list_any p (n ∷ ns) ≡ true
any_this p n ns is = ap (λ b. b || list_any p ns) is

-- one table more, and all of them
pub any_join : (p : ℕ → Bool) (xs ys : List ℕ) → list_any p (xs ++ ys) ≡ (list_any p xs || list_any p ys)
any_join p [] ys = refl
any_join p (x ∷ xs) ys = of (p x) (any_join p xs ys)
  where
    of : (b : Bool) → list_any p (xs ++ ys) ≡ (list_any p xs || list_any p ys) → (b || list_any p (xs ++ ys)) ≡ ((b || list_any p xs) || list_any p ys)
    of true rest = refl
    of false rest = rest

pub range_none : (p : ℕ → Bool) (n : ℕ) → list_any p (range_with_len 0 n) ≡ false → p n ≡ false → list_any p (range_with_len 0 (n + 1)) ≡ false
range_none p n before is =
    ap (list_any p) (range_more 0 n) ∙ any_join p (range_with_len 0 n) ((0 + n) ∷ [])
    ∙ ap (λ b. b || (p (0 + n) || false)) before ∙ ap (λ k. p k || false) (let e : 0 + n ≡ n = omega arith in e) ∙ ap (λ b. b || false) is

pub range_some : (p : ℕ → Bool) (a k n : ℕ) → a ≤ n → n < a + k → p n ≡ true → list_any p (range_with_len a k) ≡ true
range_some p a zero n from to is = absurd (omega (arith, from, to))
range_some p a (suc k) n from to is = elim (same_or_apart n a) [
  | inl same ↦ ap (λ b. b || list_any p (range_with_len (a + 1) k)) (subst (λ j. p j ≡ true) same is)
  | inr apart ↦ or_true (p a) (range_some p (a + 1) k n (omega (arith, from, apart)) (omega (arith, to)) is)
]
  where
    or_true : (b : Bool) → list_any p (range_with_len (a + 1) k) ≡ true → (b || list_any p (range_with_len (a + 1) k)) ≡ true
    or_true true h = refl
    or_true false h = h
