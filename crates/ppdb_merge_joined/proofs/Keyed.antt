-- Keys are equal where the records that they stand for are.
use Rattle.std.{proofs.Common.{◌≡◌, ℕ, Bool, true, false, List, refl, sym, ◌∙◌, ap, arith}, specs.Prelude.{◌&&◌, nat_eq, Option, Some, None, bytes_eq}}
use Rattle.std.specs.{declared.cmp.Ordering.{Ordering}, declared.cmp.Ordering.TheVariants.{Less, Equal, Greater}, Cmp.Lexicographic.{slice_cmp}, Ordering.{is_eq}}
use Rattle.std.{specs.Ordering.{nat_cmp, ordering_then}, proofs.lemmas.Bool.{eqb-true, eq-eqb}, proofs.lemmas.Bool.Decides.{nat_tests}}
use Rattle.std.proofs.lemmas.Map.Text.{is_eq-slice_cmp}
use Rattle.ppdb_values.specs.declared.custom.{CustomBody.{CustomBody}, CustomBody.TheVariants.{Async, Hoisted, TypeDocuments, Unread}, CustomValue.{CustomValue}}
use Rattle.ppdb_merge_joined.specs.declared.keys.{Content.{Content}, Content.TheVariants.{Documents, Unread as Bytes}, Key.{Key}}
use Rattle.ppdb_merge_joined.specs.contracts.keys.ContentOrd.TheImpl as content_ord
use Rattle.ppdb_merge_joined.specs.contracts.keys.KeyOrd.TheImpl as key_ord
use Rattle.ppdb_merge_joined.{specs.Keys.{body_of, record_of, plain, plain_as}, specs.Same.{same_body, same_record}, proofs.Names.{bytes_same, same_bytes}}

eq_then : (o p : Ordering) → is_eq (ordering_then o p) ≡ (is_eq o && is_eq p)
eq_then Less p = refl
eq_then Equal p = refl
eq_then Greater p = refl

number_same : (a b : ℕ) → is_eq (nat_cmp a b) ≡ nat_eq a b
number_same a b = grind (arith, nat_tests)

content_same : (a b : Content) → is_eq ((content_ord.ghosts).cmp a b) ≡ same_body (body_of a) (body_of b)
content_same (Documents rows) (Documents others) = is_eq-slice_cmp rows.now others.now
content_same (Bytes bytes) (Bytes others) = is_eq-slice_cmp bytes.now others.now
content_same (Documents rows) (Bytes others) = refl
content_same (Bytes bytes) (Documents others) = refl

pub key_same : (a b : Key) → is_eq ((key_ord.ghosts).cmp a b) ≡ same_record (record_of a) (record_of b)
key_same a b =
    let content = (content_ord.ghosts).cmp a.content b.content in
    let kinds : is_eq (ordering_then (slice_cmp nat_cmp a.kind b.kind) content)
    ≡ (bytes_eq a.kind b.kind && same_body (body_of a.content) (body_of b.content)) =
    eq_then (slice_cmp nat_cmp a.kind b.kind) content ∙ ap (λ t. t && is_eq content) (is_eq-slice_cmp a.kind b.kind)
    ∙ ap (λ t. bytes_eq a.kind b.kind && t) (content_same a.content b.content) in
    let rows : is_eq (ordering_then (nat_cmp a.row b.row) (ordering_then (slice_cmp nat_cmp a.kind b.kind) content))
    ≡ (nat_eq a.row b.row && (bytes_eq a.kind b.kind && same_body (body_of a.content) (body_of b.content))) =
    eq_then (nat_cmp a.row b.row) _ ∙ ap (λ t. t && is_eq (ordering_then (slice_cmp nat_cmp a.kind b.kind) content)) (number_same a.row b.row)
    ∙ ap (λ t. nat_eq a.row b.row && t) kinds in
    eq_then (nat_cmp a.table b.table) _
    ∙ ap (λ t. t && is_eq (ordering_then (nat_cmp a.row b.row) (ordering_then (slice_cmp nat_cmp a.kind b.kind) content))) (number_same a.table b.table)
    ∙ ap (λ t. nat_eq a.table b.table && t) rows

-- ---- equal the other way round

bool_same : (a b : Bool) → (a ≡ true → b ≡ true) → (b ≡ true → a ≡ true) → a ≡ b
bool_same true b there back = sym (there refl)
bool_same false true there back = back refl
bool_same false false there back = refl

bytes_turned : (a b : List ℕ) → bytes_eq a b ≡ bytes_eq b a
bytes_turned a b =
    bool_same (bytes_eq a b) (bytes_eq b a) (λ is. ap (λ l. bytes_eq b l) (same_bytes a b is) ∙ bytes_same b)
    (λ is. ap (λ l. bytes_eq a l) (same_bytes b a is) ∙ bytes_same a)

number_turned : (a b : ℕ) → nat_eq a b ≡ nat_eq b a
number_turned a b =
    bool_same (nat_eq a b) (nat_eq b a) (λ is. eq-eqb b a (sym (eqb-true a b is))) (λ is. eq-eqb a b (sym (eqb-true b a is)))

body_turned : (x y : CustomValue) (a b : CustomBody) → plain_as x a ≡ Some x → plain_as y b ≡ Some y → same_body a b ≡ same_body b a
body_turned x y (TypeDocuments rows) (TypeDocuments others) p q = bytes_turned rows others
body_turned x y (Unread bytes) (Unread others) p q = bytes_turned bytes others
body_turned x y (TypeDocuments rows) (Unread others) p q = refl
body_turned x y (Unread bytes) (TypeDocuments others) p q = refl
body_turned x y (Async handler steps) b p q = let e : ◌≡◌ {A = Option CustomValue} None (Some x) = p in absurd (cc)
body_turned x y (Hoisted slots) b p q = let e : ◌≡◌ {A = Option CustomValue} None (Some x) = p in absurd (cc)
body_turned x y (TypeDocuments rows) (Async handler steps) p q = let e : ◌≡◌ {A = Option CustomValue} None (Some y) = q in absurd (cc)
body_turned x y (TypeDocuments rows) (Hoisted slots) p q = let e : ◌≡◌ {A = Option CustomValue} None (Some y) = q in absurd (cc)
body_turned x y (Unread bytes) (Async handler steps) p q = let e : ◌≡◌ {A = Option CustomValue} None (Some y) = q in absurd (cc)
body_turned x y (Unread bytes) (Hoisted slots) p q = let e : ◌≡◌ {A = Option CustomValue} None (Some y) = q in absurd (cc)

pub record_turned : (x y : CustomValue) → plain x ≡ Some x → plain y ≡ Some y → same_record x y ≡ same_record y x
record_turned x y p q =
    let body = body_turned x y x.value y.value p q in
    ap (λ t. t && (nat_eq x.parent.row y.parent.row && (bytes_eq x.kind y.kind && same_body x.value y.value)))
    (number_turned x.parent.table y.parent.table)
    ∙ ap (λ t. nat_eq y.parent.table x.parent.table && (t && (bytes_eq x.kind y.kind && same_body x.value y.value)))
    (number_turned x.parent.row y.parent.row)
    ∙ ap (λ t. nat_eq y.parent.table x.parent.table && (nat_eq y.parent.row x.parent.row && (t && same_body x.value y.value))) (bytes_turned x.kind y.kind)
    ∙ ap (λ t. nat_eq y.parent.table x.parent.table && (nat_eq y.parent.row x.parent.row && (bytes_eq y.kind x.kind && t))) body

-- ---- a record that has a key, and one that has none

pub plain_is : (x r : CustomValue) → plain x ≡ Some r → r ≡ x
plain_is x r is = step x.value is
  where
    step : (b : CustomBody) → plain_as x b ≡ Some r → r ≡ x
    step (TypeDocuments rows) is = let e : ◌≡◌ {A = Option CustomValue} (Some x) (Some r) = is in cc
    step (Unread bytes) is = let e : ◌≡◌ {A = Option CustomValue} (Some x) (Some r) = is in cc
    step (Async handler steps) is = let e : ◌≡◌ {A = Option CustomValue} None (Some r) = is in absurd (cc)
    step (Hoisted slots) is = let e : ◌≡◌ {A = Option CustomValue} None (Some r) = is in absurd (cc)

and_none : (a b c : Bool) → (a && (b && (c && false))) ≡ false
and_none true true true = refl
and_none true true false = refl
and_none true false c = refl
and_none false b c = refl

pub unlike : (x y r : CustomValue) → plain x ≡ Some r → plain y ≡ None → same_record x y ≡ false
unlike x y r is none =
    ap (λ t. nat_eq x.parent.table y.parent.table && (nat_eq x.parent.row y.parent.row && (bytes_eq x.kind y.kind && t))) (step x.value y.value is none)
    ∙ and_none (nat_eq x.parent.table y.parent.table) (nat_eq x.parent.row y.parent.row) (bytes_eq x.kind y.kind)
  where
    step : (a b : CustomBody) → plain_as x a ≡ Some r → plain_as y b ≡ None → same_body a b ≡ false
    step (Async handler steps) b is none = let e : ◌≡◌ {A = Option CustomValue} None (Some r) = is in absurd (cc)
    step (Hoisted slots) b is none = let e : ◌≡◌ {A = Option CustomValue} None (Some r) = is in absurd (cc)
    step (TypeDocuments rows) (TypeDocuments others) is none = let e : ◌≡◌ {A = Option CustomValue} (Some y) None = none in absurd (cc)
    step (TypeDocuments rows) (Unread others) is none = let e : ◌≡◌ {A = Option CustomValue} (Some y) None = none in absurd (cc)
    step (Unread bytes) (TypeDocuments others) is none = let e : ◌≡◌ {A = Option CustomValue} (Some y) None = none in absurd (cc)
    step (Unread bytes) (Unread others) is none = let e : ◌≡◌ {A = Option CustomValue} (Some y) None = none in absurd (cc)
    step (TypeDocuments rows) (Async handler steps) is none = refl
    step (TypeDocuments rows) (Hoisted slots) is none = refl
    step (Unread bytes) (Async handler steps) is none = refl
    step (Unread bytes) (Hoisted slots) is none = refl
