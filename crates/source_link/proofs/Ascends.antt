-- The keys of an object that was read ascend, each once, and so those of its pairs differ.
use Rattle.std.proofs.Common.{◌≡◌, ℕ, zero, suc, ◌∙◌, Bool, true, false, cond, List, [], ◌∷◌, map, refl, sym, ap, subst, arith, Option, Some, None, Ok}
use Rattle.std.specs.{Prelude.{Contains, ◌&&◌, codes, ok_or}, Cmp.Lexicographic.{slice_cmp}, List.{AllByRecursion}, List.Sorted.{IsPermutation, IsStrictlySortedBy}}
use Rattle.std.specs.{Option.{option_map, option_and_then}, Ordering.{nat_cmp, match_ordering, ordering_reverse}, Str.{is_utf8}, declared.cmp.Ordering.{Ordering}}
use Rattle.std.{specs.declared.cmp.Ordering.TheVariants.{Less, Equal, Greater}, proofs.lemmas.Cmp.{tied_itself, nat_list_cmp_total}}
use Rattle.std.proofs.lemmas.List.Sorted.{Contains-permutation, IsPermutation-sym}
use Rattle.ppdb_base.specs.declared.link_error.LinkError.TheVariants.{Shape}
use Rattle.json.specs.Json as json
use Rattle.json.specs.Lex.{tokens}
use Rattle.serde_json.specs.{Data.{Data, null, boolean, number, string, array, object, Items, no_items, item, Members, no_members, member, put}, Find.{get_member}}
use Rattle.serde_json.specs.{Find.{as_str}, Read.{read, of_json, of_items, of_members, number_of, max_depth}}
use Rattle.source_link.specs.{declared.pair.Pair.{Pair}, Pairs.{is_key, fits_key, pair_of}, Record.{pairs_in, documents_in, pairs_of, judged, links_of}}
use Rattle.source_link.specs.Laws.{KeysDiffer}

some_of : {A B : Type 0} (f : A → Option B) (o : Option A) (b : B) → option_and_then f o ≡ Some b → (a : A) × (o ≡ Some a) × (f a ≡ Some b)
some_of f None b e = absurd (cc)
some_of f (Some a) b e = (a, refl, e)

mapped_of : {A B : Type 0} (f : A → B) (o : Option A) (b : B) → option_map f o ≡ Some b → (a : A) × (o ≡ Some a) × (f a ≡ b)
mapped_of f None b e = absurd (cc)
mapped_of f (Some a) b e = (a, refl, cc)

-- ---- ascending members

-- the key is below those of all members
abbrev Below : List ℕ → Members → Type 0
Below k no_members = Unit {0}
Below k (member l d ms) = (slice_cmp nat_cmp k l ≡ Less) × Below k ms

abbrev Ascend : Members → Type 0
Ascend no_members = Unit {0}
Ascend (member k d ms) = Below k ms × Ascend ms

-- the members of each object in it ascend
abbrev mutual
  Keyed : Data → Type 0
  Keyed null = Unit {0}
  Keyed (boolean b) = Unit {0}
  Keyed (number n) = Unit {0}
  Keyed (string s) = Unit {0}
  Keyed (array ds) = KeyedItems ds
  Keyed (object ms) = Ascend ms × KeyedMembers ms

  KeyedItems : Items → Type 0
  KeyedItems no_items = Unit {0}
  KeyedItems (item d ds) = Keyed d × KeyedItems ds

  KeyedMembers : Members → Type 0
  KeyedMembers no_members = Unit {0}
  KeyedMembers (member k d ms) = Keyed d × KeyedMembers ms

below_through : (k l : List ℕ) (ms : Members) → slice_cmp nat_cmp k l ≡ Less → Below l ms → Below k ms
below_through k l no_members less below = tt
below_through k l (member m d ms) less below = (nat_list_cmp_total.trans k l m less below.0, below_through k l ms less below.1)

below_put : (k q : List ℕ) (d : Data) (ms : Members) → slice_cmp nat_cmp k q ≡ Less → Below k ms → Below k (put q d ms)
below_put k q d no_members less below = (less, tt)
below_put k q d (member l e ms) less below = step (slice_cmp nat_cmp q l) (below_put k q d ms less below.1)
  where
    step : (o : Ordering) → Below k (put q d ms) → Below k (match_ordering o (member q d (member l e ms)) (member l d ms) (member l e (put q d ms)))
    step Less rest = (less, below)
    step Equal rest = below
    step Greater rest = (below.0, rest)

ascend_put : (q : List ℕ) (d : Data) (ms : Members) → Ascend ms → Ascend (put q d ms)
ascend_put q d no_members up = (tt, tt)
ascend_put q d (member l e ms) up = step (slice_cmp nat_cmp q l) refl (ascend_put q d ms up.1)
  where
    step : (o : Ordering) → slice_cmp nat_cmp q l ≡ o → Ascend (put q d ms)
        → Ascend (match_ordering o (member q d (member l e ms)) (member l d ms) (member l e (put q d ms)))
    step Less is rest = ((is, below_through q l ms is up.0), up)
    step Equal is rest = up
    step Greater is rest = (below_put l q d ms (nat_list_cmp_total.antisymm l q ∙ ap ordering_reverse is) up.0, rest)

keyed_put : (q : List ℕ) (d : Data) (ms : Members) → Keyed d → KeyedMembers ms → KeyedMembers (put q d ms)
keyed_put q d no_members one all = (one, all)
keyed_put q d (member l e ms) one all = step (slice_cmp nat_cmp q l) (keyed_put q d ms one all.1)
  where
    step : (o : Ordering) → KeyedMembers (put q d ms) → KeyedMembers (match_ordering o (member q d (member l e ms)) (member l d ms) (member l e (put q d ms)))
    step Less rest = (one, all)
    step Equal rest = (one, all.1)
    step Greater rest = (all.0, rest)

-- ---- what is read is keyed

mutual
  keyed_json : (j : json.Json) (d : Data) → of_json j ≡ Some d → Keyed d
  keyed_json json.null d e = let is : null ≡ d = cc in subst Keyed is tt
  keyed_json (json.boolean b) d e = let is : boolean b ≡ d = cc in subst Keyed is tt
  keyed_json (json.number s) d e = let m = mapped_of number (number_of s) d e in subst Keyed m.2 tt
  keyed_json (json.string s) d e = let is : string s ≡ d = cc in subst Keyed is tt
  keyed_json (json.array js) d e = let m = mapped_of array (of_items js) d e in subst Keyed m.2 (keyed_items js m.0 m.1)
  keyed_json (json.object ms) d e = let m = mapped_of object (of_members ms no_members) d e in subst Keyed m.2 (keyed_members ms no_members m.0 tt tt m.1)

  keyed_items : (js : json.Items) (ds : Items) → of_items js ≡ Some ds → KeyedItems ds
  keyed_items json.no_items ds e = let is : no_items ≡ ds = cc in subst KeyedItems is tt
  keyed_items (json.item j js) ds e =
      let one = some_of (λ d. option_map (item d) (of_items js)) (of_json j) ds e in
      let rest = mapped_of (item one.0) (of_items js) ds one.2 in
      subst KeyedItems rest.2 (keyed_json j one.0 one.1, keyed_items js rest.0 rest.1)

  keyed_members : (ms : json.Members) (found all : Members) → Ascend found → KeyedMembers found → of_members ms found ≡ Some all
      → Ascend all × KeyedMembers all
  keyed_members json.no_members found all up keyed e = let is : found ≡ all = cc in subst (λ (m : Members). Ascend m × KeyedMembers m) is (up, keyed)
  keyed_members (json.member k j ms) found all up keyed e =
      let one = some_of (λ d. of_members ms (put k d found)) (of_json j) all e in
      keyed_members ms (put k one.0 found) all (ascend_put k one.0 found up) (keyed_put k one.0 found (keyed_json j one.0 one.1) keyed) one.2

keyed_read : (text : List ℕ) (d : Data) → read text ≡ Some d → Keyed d
keyed_read text d e = let j = some_of of_json (option_and_then (λ p. json.if_last p.0 p.1) (json.value max_depth (tokens text))) d e in keyed_json j.0 d j.2

keyed_member : (k : List ℕ) (ms : Members) (d : Data) → KeyedMembers ms → get_member k ms ≡ Some d → Keyed d
keyed_member k no_members d keyed e = absurd (cc)
keyed_member k (member l x ms) d keyed e = step (slice_cmp nat_cmp k l) e (λ is. keyed_member k ms d keyed.1 is)
  where
    step : (o : Ordering) → match_ordering o (get_member k ms) (Some x) (get_member k ms) ≡ Some d → (get_member k ms ≡ Some d → Keyed d) → Keyed d
    step Less is rest = rest is
    step Equal is rest = let same : x ≡ d = cc in subst Keyed same keyed.0
    step Greater is rest = rest is

-- ---- the pairs of keyed members

keys_of : List Pair → List (List ℕ)
keys_of pairs = map (λ (pair : Pair). pair.key) pairs

key_in : Option Pair → List ℕ
key_in None = []
key_in (Some p) = p.key

pair_key : (key address : List ℕ) (pair : Pair) → pair_of key address ≡ Some pair → pair.key ≡ key
unfolding key_in
pair_key key address pair e = step (is_key key && fits_key key address) e
  where
    step : (b : Bool) → cond b (Some (let p : Pair = record { key = key; address = address } in p)) None ≡ Some pair → pair.key ≡ key
    step true is = let same : Some (let p : Pair = record { key = key; address = address } in p) ≡ Some pair = is in sym (ap key_in same)
    step false is = absurd (cc)

    key_in : Option Pair → List ℕ
    key_in None = []
    key_in (Some p) = p.key

member_pairs : (key : List ℕ) (d : Data) (ms : Members) (pairs : List Pair) → pairs_in (member key d ms) ≡ Some pairs
    → (pair : Pair) × (rest : List Pair) × (pairs_in ms ≡ Some rest) × (pair.key ≡ key) × (pair ∷ rest ≡ pairs)
member_pairs key d ms pairs e =
    let one = some_of (λ pair. option_map (λ pairs. pair ∷ pairs) (pairs_in ms)) (option_and_then (pair_of key) (as_str d)) pairs e in
    let text = some_of (pair_of key) (as_str d) one.0 one.1 in
    let rest = mapped_of (λ pairs. one.0 ∷ pairs) (pairs_in ms) pairs one.2 in
    (one.0, rest.0, rest.1, pair_key key text.0 one.0 text.2, rest.2)

below_pairs : (k : List ℕ) (ms : Members) (pairs : List Pair) → Below k ms → pairs_in ms ≡ Some pairs
    → AllByRecursion (λ y. slice_cmp nat_cmp k y ≡ Less) (keys_of pairs)
unfolding keys_of
below_pairs k no_members pairs below e = let is : [] ≡ pairs = cc in
    subst (λ (ps : List Pair). AllByRecursion (λ y. slice_cmp nat_cmp k y ≡ Less) (keys_of ps)) is tt
below_pairs k (member l d ms) pairs below e =
    let m = member_pairs l d ms pairs e in
    subst (λ (ps : List Pair). AllByRecursion (λ y. slice_cmp nat_cmp k y ≡ Less) (keys_of ps)) m.4
    (subst (λ key. slice_cmp nat_cmp k key ≡ Less) (sym m.3) below.0, below_pairs k ms m.1 below.1 m.2)

ascending_pairs : (ms : Members) (pairs : List Pair) → Ascend ms → pairs_in ms ≡ Some pairs → IsStrictlySortedBy (slice_cmp nat_cmp) (keys_of pairs)
unfolding keys_of IsStrictlySortedBy
ascending_pairs no_members pairs up e = let is : [] ≡ pairs = cc in subst (λ (ps : List Pair). IsStrictlySortedBy (slice_cmp nat_cmp) (keys_of ps)) is tt
ascending_pairs (member k d ms) pairs up e =
    let m = member_pairs k d ms pairs e in
    subst (λ (ps : List Pair). IsStrictlySortedBy (slice_cmp nat_cmp) (keys_of ps)) m.4 (
      subst (λ key. AllByRecursion (λ y. slice_cmp nat_cmp key y ≡ Less) (keys_of m.1)) (sym m.3)
          (below_pairs k ms m.1 up.0 m.2),
      ascending_pairs ms m.1 up.1 m.2,
    )

documents_ascend : (o : Option Data) (pairs : List Pair) → ((d : Data) → o ≡ Some d → Keyed d) → documents_in o ≡ Some pairs
    → IsStrictlySortedBy (slice_cmp nat_cmp) (keys_of pairs)
unfolding keys_of IsStrictlySortedBy
documents_ascend None pairs keyed e = let is : [] ≡ pairs = cc in subst (λ (ps : List Pair). IsStrictlySortedBy (slice_cmp nat_cmp) (keys_of ps)) is tt
documents_ascend (Some (object ms)) pairs keyed e = ascending_pairs ms pairs (keyed (object ms) refl).0 e
documents_ascend (Some null) pairs keyed e = absurd (cc)
documents_ascend (Some (boolean b)) pairs keyed e = absurd (cc)
documents_ascend (Some (number n)) pairs keyed e = absurd (cc)
documents_ascend (Some (string s)) pairs keyed e = absurd (cc)
documents_ascend (Some (array ds)) pairs keyed e = absurd (cc)

value_ascends : (d : Data) (pairs : List Pair) → Keyed d → pairs_of d ≡ Some pairs → IsStrictlySortedBy (slice_cmp nat_cmp) (keys_of pairs)
value_ascends (object ms) pairs keyed e = documents_ascend (get_member (codes "documents") ms) pairs
    (λ d is. keyed_member (codes "documents") ms d keyed.1 is) e
value_ascends null pairs keyed e = absurd (cc)
value_ascends (boolean b) pairs keyed e = absurd (cc)
value_ascends (number n) pairs keyed e = absurd (cc)
value_ascends (string s) pairs keyed e = absurd (cc)
value_ascends (array ds) pairs keyed e = absurd (cc)

shaped_some : (o : Option (List Pair)) (pairs : List Pair) → ok_or o Shape ≡ Ok pairs → o ≡ Some pairs
shaped_some None pairs e = absurd (cc)
shaped_some (Some ps) pairs e = cc

judged_ascends : (o : Option Data) (pairs : List Pair) → ((d : Data) → o ≡ Some d → Keyed d) → judged o ≡ Ok pairs
    → IsStrictlySortedBy (slice_cmp nat_cmp) (keys_of pairs)
judged_ascends None pairs keyed e = absurd (cc)
judged_ascends (Some d) pairs keyed e = value_ascends d pairs (keyed d refl) (shaped_some (pairs_of d) pairs e)

pub links_ascend : (bytes : List ℕ) (pairs : List Pair) → links_of bytes ≡ Ok pairs
    → IsStrictlySortedBy (slice_cmp nat_cmp) (map (λ (pair : Pair). pair.key) pairs)
unfolding keys_of
links_ascend bytes pairs e = judged_ascends (cond (is_utf8 bytes) (read bytes) None) pairs (λ d is. utf8 (is_utf8 bytes) d is) e
  where
    utf8 : (b : Bool) (d : Data) → cond b (read bytes) None ≡ Some d → Keyed d
    utf8 true d is = keyed_read bytes d is
    utf8 false d is = absurd (cc)

-- ---- keys that ascend differ

not_below_itself : (k l : List ℕ) → k ≡ l → slice_cmp nat_cmp k l ≡ Less → ⊥
not_below_itself k l e less = let same : slice_cmp nat_cmp k l ≡ Equal = subst (λ m. slice_cmp nat_cmp k m ≡ Equal) e (tied_itself nat_list_cmp_total k) in cc

all_at : (P : List ℕ → Type 0) (pairs : List Pair) (pair : Pair) → AllByRecursion P (map (λ (p : Pair). p.key) pairs) → Contains pairs pair → P pair.key
all_at P [] pair all (k, less, e) = absurd (omega (arith, less))
all_at P (p ∷ ps) pair all (zero, less, e) = subst (λ (q : Pair). P q.key) e all.0
all_at P (p ∷ ps) pair all (suc k, less, e) = all_at P ps pair all.1 (k, omega (arith, less), e)

pub ascending_differ : (pairs : List Pair) → IsStrictlySortedBy (slice_cmp nat_cmp) (map (λ (pair : Pair). pair.key) pairs) → KeysDiffer pairs
unfolding IsStrictlySortedBy
ascending_differ [] up a b (k, less, e) there same = absurd (omega (arith, less))
ascending_differ (p ∷ ps) up a b (zero, less, e) (zero, below, f) same = sym e ∙ f
ascending_differ (p ∷ ps) up a b (zero, less, e) (suc k, below, f) same =
    absurd (not_below_itself p.key b.key (ap (λ (q : Pair). q.key) e ∙ same)
    (all_at (λ y. slice_cmp nat_cmp p.key y ≡ Less) ps b up.0 (k, omega (arith, below), f)))
ascending_differ (p ∷ ps) up a b (suc k, less, e) (zero, below, f) same =
    absurd (not_below_itself p.key a.key (ap (λ (q : Pair). q.key) f ∙ sym same)
    (all_at (λ y. slice_cmp nat_cmp p.key y ≡ Less) ps a up.0 (k, omega (arith, less), e)))
ascending_differ (p ∷ ps) up a b (suc k, less, e) (suc i, below, f) same =
    ascending_differ ps up.1 a b (k, omega (arith, less), e) (i, omega (arith, below), f) same

pub moved_differ : (pairs links : List Pair) → KeysDiffer pairs → IsPermutation pairs links → KeysDiffer links
moved_differ pairs links differ moved a b there_a there_b same =
    let back = IsPermutation-sym pairs links moved in
    differ a b (Contains-permutation links pairs a back there_a) (Contains-permutation links pairs b back there_b) same
