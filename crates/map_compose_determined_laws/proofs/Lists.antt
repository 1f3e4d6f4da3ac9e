-- Two maps are one whose lists ascend and answer alike.
use Rattle.std.{proofs.Common.{◌≡◌, ℕ, ◌&&◌, true, cond, List, [], ◌∷◌, Some, None, refl, sym, ◌∙◌, ap, inl, inr, map, subst}, specs.Prelude.{nat_eq}}
use Rattle.std.specs.{List.{find, list_any}, Str.{bytes_eq}, Cmp.Lexicographic.{slice_cmp}, List.Sorted.{IsStrictlySortedBy}, Option.{option_map}}
use Rattle.std.{specs.Ordering.{nat_cmp}, proofs.lemmas.Bool.{eq-eqb, ne_eqb, eqb-true, and_parts}, proofs.lemmas.Cmp.{nat_cmp_total, nat_list_cmp_total}}
use Rattle.ppdb_maps.specs.declared.entries.{Count.{Count}, RowLine.{RowLine}, CrossLine.{CrossLine}, SlotImage.{SlotImage}, SignatureImage.{SignatureImage}}
use Rattle.ppdb_maps.specs.{declared.entries.NameLine.{NameLine}, Gathered.{same_pair}, Map.{Map, MethodLine, Ascends, pair_cmp, count_of, row_line, cross_line}}
use Rattle.ppdb_maps.{specs.Map.{has_gone_line, method_line, is_dropped, has_slots, slot_line, signature_line, document_line}, proofs.OneList.{one_list}}
use Rattle.ppdb_maps.proofs.OneMap.{same_number, number_same, pair_is, is_pair, pair_total, same_or_apart, alike, gone_one}
use Rattle.map_compose.proofs.Names.{same as same_bytes, eq_itself as bytes_itself}

-- ---- lists that answer alike by their keys

-- items by one number
pub by_number : {X : Type 0} (key : X → ℕ) (xs ys : List X) → IsStrictlySortedBy nat_cmp (map key xs) → IsStrictlySortedBy nat_cmp (map key ys)
    → ((n : ℕ) → find (λ x. nat_eq (key x) n) xs ≡ find (λ x. nat_eq (key x) n) ys) → xs ≡ ys
by_number key xs ys a b same = one_list key nat_eq nat_cmp same_number number_same nat_cmp_total xs ys a b same

-- items that are a number and what it says
pub with_value : {X : Type 0} (key value : X → ℕ) (make : ℕ → ℕ → X) → ((x : X) → make (key x) (value x) ≡ x) → (xs ys : List X)
    → IsStrictlySortedBy nat_cmp (map key xs) → IsStrictlySortedBy nat_cmp (map key ys)
    → ((n : ℕ) → option_map value (find (λ x. nat_eq (key x) n) xs) ≡ option_map value (find (λ x. nat_eq (key x) n) ys)) → xs ≡ ys
with_value {X} key value make is xs ys a b same = by_number key xs ys a b
    (λ n. alike (λ x. nat_eq (key x) n) value (make n) (λ x hit. remade n x (eqb-true (key x) n hit)) xs ys (same n))
  where
    remade : (n : ℕ) (x : X) → key x ≡ n → make n (value x) ≡ x
    remade n x e = ap (λ k. make k (value x)) (sym e) ∙ is x

-- items that are two numbers and what they say
pub with_pair : {X : Type 0} (first second value : X → ℕ) (make : ℕ → ℕ → ℕ → X) → ((x : X) → make (first x) (second x) (value x) ≡ x) → (xs ys : List X)
    → IsStrictlySortedBy pair_cmp (map (λ x. (first x, second x)) xs) → IsStrictlySortedBy pair_cmp (map (λ x. (first x, second x)) ys)
    → ((j k : ℕ) → option_map value (find (λ x. nat_eq (first x) j && nat_eq (second x) k) xs)
    ≡ option_map value (find (λ x. nat_eq (first x) j && nat_eq (second x) k) ys)) → xs ≡ ys
with_pair {X} first second value make is xs ys a b same =
    one_list (λ x. (first x, second x)) same_pair pair_cmp pair_is is_pair pair_total xs ys a b
    (λ p. alike (λ x. nat_eq (first x) p.0 && nat_eq (second x) p.1) value (make p.0 p.1) (remade p.0 p.1) xs ys (same p.0 p.1))
  where
    remade : (j k : ℕ) (x : X) → (nat_eq (first x) j && nat_eq (second x) k) ≡ true → make j k (value x) ≡ x
    remade j k x hit =
        let parts = and_parts (nat_eq (first x) j) (nat_eq (second x) k) hit in
        ap (λ n. make n k (value x)) (sym (eqb-true (first x) j parts.0)) ∙ ap (λ n. make (first x) n (value x)) (sym (eqb-true (second x) k parts.1))
        ∙ is x

-- names and what they get
pub by_name : (xs ys : List NameLine) → IsStrictlySortedBy (slice_cmp nat_cmp) (map (λ (d : NameLine). d.old) xs)
    → IsStrictlySortedBy (slice_cmp nat_cmp) (map (λ (d : NameLine). d.old) ys)
    → ((name : List ℕ) → option_map (λ (d : NameLine). d.new) (find (λ d. bytes_eq d.old name) xs)
    ≡ option_map (λ (d : NameLine). d.new) (find (λ d. bytes_eq d.old name) ys)) → xs ≡ ys
by_name xs ys a b same_names =
    one_list (λ (d : NameLine). d.old) bytes_eq (slice_cmp nat_cmp) same_bytes bytes_itself nat_list_cmp_total xs ys a b
    (λ name. alike (λ d. bytes_eq d.old name) (λ d. d.new) (λ new. record { old = name; new = new }) (λ d hit. remade name d (same_bytes d.old name hit))
    xs ys (same_names name))
  where
    remade : (name : List ℕ) (d : NameLine) → d.old ≡ name → record { old = name; new = d.new } ≡ d
    remade name d e = ap (λ k. record d { old = k }) (sym e)

-- numbers
number_found : (n : ℕ) (xs : List ℕ) → find (λ x. nat_eq x n) xs ≡ cond (list_any (nat_eq n) xs) (Some n) None
number_found n [] = refl
number_found n (x ∷ xs) = elim (same_or_apart x n) [
  | inl same ↦ rw (eq-eqb x n same, eq-eqb n x (sym same)) (ap Some same)
  | inr apart ↦ rw (ne_eqb x n apart, ne_eqb n x (λ e. apart (sym e))) (number_found n xs)
]

map_itself : (xs : List ℕ) → map (λ (x : ℕ). x) xs ≡ xs
map_itself [] = refl
map_itself (x ∷ xs) = ap (λ l. x ∷ l) (map_itself xs)

pub numbers : (xs ys : List ℕ) → IsStrictlySortedBy nat_cmp xs → IsStrictlySortedBy nat_cmp ys → ((n : ℕ) → list_any (nat_eq n) xs ≡ list_any (nat_eq n) ys)
    → xs ≡ ys
numbers xs ys a b same = by_number (λ (x : ℕ). x) xs ys
    (subst (IsStrictlySortedBy nat_cmp) (sym (map_itself xs)) a) (subst (IsStrictlySortedBy nat_cmp) (sym (map_itself ys)) b)
    (λ n. number_found n xs ∙ ap (λ r. cond r (Some n) None) (same n) ∙ sym (number_found n ys))

-- items that are found by two numbers
pub by_pair : {X : Type 0} (first second : X → ℕ) (xs ys : List X) → IsStrictlySortedBy pair_cmp (map (λ x. (first x, second x)) xs)
    → IsStrictlySortedBy pair_cmp (map (λ x. (first x, second x)) ys)
    → ((j k : ℕ) → find (λ x. nat_eq (first x) j && nat_eq (second x) k) xs ≡ find (λ x. nat_eq (first x) j && nat_eq (second x) k) ys) → xs ≡ ys
by_pair first second xs ys a b same =
    one_list (λ x. (first x, second x)) same_pair pair_cmp pair_is is_pair pair_total xs ys a b (λ p. same p.0 p.1)

-- ---- maps

-- two maps answer alike, list by list
pub record AnswerAlike (a b : Map) : Type 0 where
  pub counts : (table : ℕ) → count_of a table ≡ count_of b table
  pub rows : (table old : ℕ) → row_line a table old ≡ row_line b table old
  pub crossed : (table old : ℕ) → cross_line a table old ≡ cross_line b table old
  pub gone : (table old : ℕ) → has_gone_line a table old ≡ has_gone_line b table old
  pub methods : (method : ℕ) → method_line a method ≡ method_line b method
  pub drops : (method : ℕ) → is_dropped a method ≡ is_dropped b method
  pub slotted : (method : ℕ) → has_slots a method ≡ has_slots b method
  pub slots : (method old : ℕ) → slot_line a method old ≡ slot_line b method old
  pub signatures : (method : ℕ) → signature_line a method ≡ signature_line b method
  pub documents : (name : List ℕ) → document_line a name ≡ document_line b name
  pub link : a.link ≡ b.link
  pub shares : a.shares ≡ b.shares

-- One list after the other: a further list of a map is one more `let` and one more line.
pub one_map : (a b : Map) → Ascends a → Ascends b → AnswerAlike a b → a ≡ b
one_map a b x y same =
    let counted : Map = record a { counts = b.counts } in
    let rowed : Map = record counted { rows = b.rows } in
    let crossed : Map = record rowed { crossed = b.crossed } in
    let ended : Map = record crossed { gone = b.gone } in
    let lined : Map = record ended { methods = b.methods } in
    let dropped : Map = record lined { drops = b.drops } in
    let slotted : Map = record dropped { slotted = b.slotted } in
    let put : Map = record slotted { slots = b.slots } in
    let signed : Map = record put { signatures = b.signatures } in
    let named : Map = record signed { documents = b.documents } in
    ap (λ l. record a { counts = l })
    (with_value (λ (c : Count). c.table) (λ c. c.rows) (λ t r. record { table = t; rows = r }) (λ c. refl) a.counts b.counts x.counts y.counts same.counts)
    ∙ ap (λ l. record counted { rows = l })
    (with_pair (λ (r : RowLine). r.table) (λ r. r.old) (λ r. r.new) (λ t o n. record { table = t; old = o; new = n }) (λ r. refl)
    a.rows b.rows x.rows y.rows same.rows)
    ∙ ap (λ l. record rowed { crossed = l })
    (by_pair (λ (r : CrossLine). r.table) (λ r. r.old) a.crossed b.crossed x.crossed y.crossed same.crossed)
    ∙ ap (λ l. record crossed { gone = l }) (gone_one a.gone b.gone x.gone y.gone same.gone)
    ∙ ap (λ l. record ended { methods = l }) (by_number (λ (l : MethodLine). l.method) a.methods b.methods x.methods y.methods same.methods)
    ∙ ap (λ l. record lined { drops = l }) (numbers a.drops b.drops x.drops y.drops same.drops)
    ∙ ap (λ l. record dropped { slotted = l }) (numbers a.slotted b.slotted x.slotted y.slotted same.slotted)
    ∙ ap (λ l. record slotted { slots = l })
    (with_pair (λ (s : SlotImage). s.method) (λ s. s.old) (λ s. s.new) (λ m o n. record { method = m; old = o; new = n }) (λ s. refl)
    a.slots b.slots x.slots y.slots same.slots)
    ∙ ap (λ l. record put { signatures = l })
    (with_value (λ (s : SignatureImage). s.method) (λ s. s.new) (λ m r. record { method = m; new = r }) (λ s. refl)
    a.signatures b.signatures x.signatures y.signatures same.signatures)
    ∙ ap (λ l. record signed { documents = l }) (by_name a.documents b.documents x.documents y.documents same.documents)
    ∙ ap (λ o. record named { link = o }) same.link ∙ ap (λ z. record named { link = b.link; shares = z }) same.shares
