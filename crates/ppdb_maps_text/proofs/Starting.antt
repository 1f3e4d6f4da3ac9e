-- Before the lines of tables are read: the rows that have a line are ahead, table by table and by OLD.
use Rattle.std.proofs.Common.{ℕ, ◌≡◌, ◌&&◌, ◌||◌, ◌++◌, Bool, true, false, List, [], ◌∷◌, Option, Some, None, refl, sym, ap, ◌∙◌, subst, map}
use Rattle.std.specs.{Prelude.{nat_eq, is_some}, List.{AllByRecursion, find, flat_map}, List.Sorted.{IsStrictlySortedBy}, Option.{option_map}}
use Rattle.std.proofs.lemmas.Bool.{false≢true, eq-eqb}
use Rattle.ppdb_maps.specs.declared.{entries.Count.{Count}, entries.RowLine.{RowLine}, entries.CrossLine.{CrossLine}, entries.GoneLine.{GoneLine}, line.Line.{Line}}
use Rattle.ppdb_maps.specs.{declared.line.Line.TheVariants.{Link, Shares}, Before.{count_in, has_image_in, methods_of, drop_in, slots_in, slot_in, signature_in}}
use Rattle.ppdb_maps.specs.{Before.{document_in}, Gathered.{same_pair}, Map.{Map, pair_cmp, count_of, row_line, cross_line, has_gone_line, rows_of, crossed_of}}
use Rattle.ppdb_maps.{specs.Map.{gone_of}, specs.Readable.{IsReadable}, proofs.OneMap.{pair_is, pair_total}, proofs.OneList.{any_is}}
use Rattle.ppdb_maps_text.{specs.MapTexts.{olds_of}, proofs.Ahead.{Ahead, starts}, proofs.Found.{has, given, has_append, has_ascending, has_key, find_filter}}
use Rattle.ppdb_maps_text.proofs.{Found.{flat_found}, Got.{RowKey, key_of, no_value, there_if, SameImage, Unsaid, unsaid}, OneLine.{has_line, OneLine, by_row}}
use Rattle.ppdb_maps_text.proofs.{OneLine.{by_cross, by_gone, one_line}, Orders.{Up, ascending_up, flat_pairs}}

-- ---- the rows with a line

some_mapped : {X Y : Type 0} (g : X → Y) (o : Option X) → is_some (option_map g o) ≡ is_some o
some_mapped g None = refl
some_mapped g (Some x) = refl

row_there : (m : Map) (t o : ℕ) → has o (map (λ (r : RowLine). r.old) (rows_of m t)) ≡ is_some (row_line m t o)
row_there m t o =
    has_key (λ (r : RowLine). r.old) o (rows_of m t)
    ∙ ap is_some (find_filter (λ (r : RowLine). nat_eq r.table t) (λ (r : RowLine). nat_eq r.old o) m.rows)
    ∙ sym (some_mapped (λ (r : RowLine). r.new) (find (λ (r : RowLine). nat_eq r.table t && nat_eq r.old o) m.rows))

cross_there : (m : Map) (t o : ℕ) → has o (map (λ (r : CrossLine). r.old) (crossed_of m t)) ≡ is_some (cross_line m t o)
cross_there m t o =
    has_key (λ (r : CrossLine). r.old) o (crossed_of m t)
    ∙ ap is_some (find_filter (λ (r : CrossLine). nat_eq r.table t) (λ (r : CrossLine). nat_eq r.old o) m.crossed)

gone_there : (m : Map) (t o : ℕ) → has o (map (λ (r : GoneLine). r.old) (gone_of m t)) ≡ has_gone_line m t o
gone_there m t o =
    has_key (λ (r : GoneLine). r.old) o (gone_of m t)
    ∙ ap is_some (find_filter (λ (r : GoneLine). nat_eq r.table t) (λ (r : GoneLine). nat_eq r.old o) m.gone)
    ∙ sym (any_is (λ (r : GoneLine). nat_eq r.table t && nat_eq r.old o) m.gone)

-- the rows of a table that have a line are those of which the map has one
pub olds_have : (m : Map) (t o : ℕ) → has o (olds_of m t) ≡ has_line m t o
olds_have m t o =
    let rows = map (λ (r : RowLine). r.old) (rows_of m t) in
    let crossed = map (λ (r : CrossLine). r.old) (crossed_of m t) in
    let gone = map (λ (r : GoneLine). r.old) (gone_of m t) in
    has_ascending o (rows ++ (crossed ++ gone)) ∙ has_append o rows (crossed ++ gone)
    ∙ ap (λ b. has o rows || b) (has_append o crossed gone)
    ∙ ap (λ b. b || (has o crossed || has o gone)) (row_there m t o)
    ∙ ap (λ b. is_some (row_line m t o) || (b || has o gone)) (cross_there m t o)
    ∙ ap (λ b. is_some (row_line m t o) || (is_some (cross_line m t o) || b)) (gone_there m t o)

or_right : (a b : Bool) → b ≡ true → (a || b) ≡ true
or_right true b is = refl
or_right false b is = is

-- what holds of the numbers that a list has holds of each
pub all_has : (P : ℕ → Type 0) (ns : List ℕ) → ((n : ℕ) → has n ns ≡ true → P n) → AllByRecursion P ns
all_has P [] holds = tt
all_has P (n ∷ ns) holds = (
  holds n (ap (λ b. b || has n ns) (eq-eqb n n refl)),
  all_has P ns (λ k there. holds k (or_right (nat_eq k n) (has k ns) there)),
)

pub olds_lined : (m : Map) (t : ℕ) → AllByRecursion (λ o. has_line m t o ≡ true) (olds_of m t)
olds_lined m t = all_has (λ o. has_line m t o ≡ true) (olds_of m t) (λ o there. sym (olds_have m t o) ∙ there)

-- a table of which a row has a line has a count
pub line_counted : (m : Map) → IsReadable m → (t o : ℕ) → has_line m t o ≡ true → is_some (count_of m t) ≡ true
line_counted m readable t o there = of t o (one_line m readable t o there)
  where
    of : (t o : ℕ) → OneLine m t o → is_some (count_of m t) ≡ true
    of _ _ (by_row line holds row crossed gone) = holds.2
    of _ _ (by_cross line holds some row crossed gone) = holds.3
    of _ _ (by_gone line holds some row crossed gone) = holds.2

-- ---- all of them, in order

abbrev pub table_keys : Map → ℕ → List RowKey
table_keys m t = map (λ o. (t, o)) (olds_of m t)

abbrev pub keys_of : Map → Count → List RowKey
keys_of m c = table_keys m c.table

flat_keys : (m : Map) (cs : List Count) → flat_map (keys_of m) cs ≡ flat_map (table_keys m) (map (λ (c : Count). c.table) cs)
flat_keys m [] = refl
flat_keys m (c ∷ cs) = ap (λ l. keys_of m c ++ l) (flat_keys m cs)

keyed : (t : ℕ) (os : List ℕ) → map (λ (k : RowKey). k.0) (map (λ o. (t, o)) os) ≡ map (λ (k : RowKey). t) (map (λ o. (t, o)) os)
keyed t [] = refl
keyed t (o ∷ os) = ap (λ l. t ∷ l) (keyed t os)

olds_kept : (t : ℕ) (os : List ℕ) → map (λ (k : RowKey). k.1) (map (λ o. (t, o)) os) ≡ os
olds_kept t [] = refl
olds_kept t (o ∷ os) = ap (λ l. o ∷ l) (olds_kept t os)

pub olds_up : (m : Map) (t : ℕ) → Up (olds_of m t)
olds_up m t =
    ascending_up (map (λ (r : RowLine). r.old) (rows_of m t)
    ++ (map (λ (r : CrossLine). r.old) (crossed_of m t) ++ map (λ (r : GoneLine). r.old) (gone_of m t)))

keys_rise : (m : Map) → IsReadable m → IsStrictlySortedBy pair_cmp (map key_of (flat_map (keys_of m) m.counts))
keys_rise m readable =
    subst (λ ks. IsStrictlySortedBy pair_cmp (map key_of ks)) (sym (flat_keys m m.counts))
    (flat_pairs (λ (k : RowKey). k.0) (λ (k : RowKey). k.1) (table_keys m) (λ t. keyed t (olds_of m t))
    (λ t. subst Up (sym (olds_kept t (olds_of m t))) (olds_up m t)) (map (λ (c : Count). c.table) m.counts) readable.ascends.counts)

keys_found : (m : Map) → IsReadable m → (k : ℕ × ℕ)
    → option_map no_value (find (λ x. same_pair (key_of x) k) (flat_map (keys_of m) m.counts)) ≡ there_if (has_line m k.0 k.1)
keys_found m readable k =
    of_some (find (λ x. same_pair (key_of x) k) (flat_map (keys_of m) m.counts))
    ∙ ap there_if (ap (λ ks. is_some (find (λ x. same_pair (key_of x) k) ks)) (flat_keys m m.counts)
    ∙ ap is_some (flat_found (λ (x : RowKey). x.0) (λ (x : RowKey). nat_eq x.1 k.1) (table_keys m) (λ t. keyed t (olds_of m t)) k.0 tables)
    ∙ given_some (has k.0 tables) (find (λ (x : RowKey). nat_eq x.1 k.1) (table_keys m k.0))
    ∙ ap (λ b. has k.0 tables && b) (sym (has_key (λ (x : RowKey). x.1) k.1 (table_keys m k.0)) ∙ ap (has k.1) (olds_kept k.0 (olds_of m k.0))
    ∙ olds_have m k.0 k.1)
    ∙ counted (has k.0 tables) (has_line m k.0 k.1) (λ there. has_key (λ (c : Count). c.table) k.0 m.counts
    ∙ sym (some_mapped (λ (c : Count). c.rows) (find (λ (c : Count). nat_eq c.table k.0) m.counts)) ∙ line_counted m readable k.0 k.1 there))
  where
    tables : List ℕ
    tables = map (λ (c : Count). c.table) m.counts

    of_some : (o : Option RowKey) → option_map no_value o ≡ there_if (is_some o)
    of_some None = refl
    of_some (Some x) = refl

    given_some : (b : Bool) (o : Option RowKey) → is_some (given b o) ≡ (b && is_some o)
    given_some true o = refl
    given_some false o = refl

    counted : (a b : Bool) → (b ≡ true → a ≡ true) → (a && b) ≡ b
    counted true b is = refl
    counted false false is = refl
    counted false true is = is refl

pub images_start : (m : Map) → IsReadable m
    → Ahead key_of no_value same_pair pair_cmp (λ k. None) (flat_map (keys_of m) m.counts) (λ k. there_if (has_line m k.0 k.1))
images_start m readable =
    let start = starts key_of no_value same_pair pair_cmp pair_is pair_total (flat_map (keys_of m) m.counts) (keys_rise m readable) in
    record { sorted = start.sorted; below = start.below; whole = λ k. start.whole k ∙ keys_found m readable k }

-- ---- once all were read

pub same_read : (m : Map) (said : List Line) (t o : ℕ) → there_if (has_image_in said t o) ≡ there_if (has_line m t o)
    → (has_image_in said t o ≡ true → SameImage m said t o) → SameImage m said t o
same_read m said t o are same = of (has_image_in said t o) refl
  where
    back : (b : Bool) → is_some (there_if b) ≡ b
    back true = refl
    back false = refl

    none : (a : Option ℕ) (b : Option CrossLine) (c : Bool) → row_line m t o ≡ a → cross_line m t o ≡ b → has_gone_line m t o ≡ c
        → (is_some a || (is_some b || c)) ≡ false → Unsaid said t o → SameImage m said t o
    none (Some n) b c x y z is h = absurd (false≢true (sym is))
    none None (Some l) c x y z is h = absurd (false≢true (sym is))
    none None None true x y z is h = absurd (false≢true (sym is))
    none None None false x y z is h = (h.row ∙ sym x, h.crossed ∙ sym y, h.gone ∙ sym z)

    of : (b : Bool) → has_image_in said t o ≡ b → SameImage m said t o
    of true is = same is
    of false is =
        let lineless : has_line m t o ≡ false = sym (back (has_line m t o)) ∙ sym (ap is_some are) ∙ back (has_image_in said t o) ∙ is in
        none (row_line m t o) (cross_line m t o) (has_gone_line m t o) refl refl refl lineless (unsaid said t o is)

-- ---- lines that say nothing of what is ahead

pub record Silent (said : List Line) : Type 0 where
  pub counts : (t : ℕ) → count_in said t ≡ None
  pub images : (t o : ℕ) → has_image_in said t o ≡ false
  pub drops : (n : ℕ) → drop_in said n ≡ false
  pub slotted : (n : ℕ) → slots_in said n ≡ false
  pub slots : (n o : ℕ) → slot_in said n o ≡ None
  pub signatures : (n : ℕ) → signature_in said n ≡ None
  pub documents : (name : List ℕ) → document_in said name ≡ None
  pub methods : methods_of said ≡ []

pub none_silent : Silent []
none_silent = record {
  counts = λ t. refl;
  images = λ t o. refl;
  drops = λ n. refl;
  slotted = λ n. refl;
  slots = λ n o. refl;
  signatures = λ n. refl;
  documents = λ name. refl;
  methods = refl;
}

pub shares_silent : (said : List Line) → Silent said → Silent (Shares ∷ said)
shares_silent said h = record {
  counts = h.counts;
  images = h.images;
  drops = h.drops;
  slotted = h.slotted;
  slots = h.slots;
  signatures = h.signatures;
  documents = h.documents;
  methods = h.methods;
}

pub link_silent : (said : List Line) (value : List ℕ) → Silent said → Silent (Link value ∷ said)
link_silent said value h = record {
  counts = h.counts;
  images = h.images;
  drops = h.drops;
  slotted = h.slotted;
  slots = h.slots;
  signatures = h.signatures;
  documents = h.documents;
  methods = h.methods;
}
