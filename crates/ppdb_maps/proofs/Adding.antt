-- A draft holds a line that was added.
use Rattle.std.proofs.Common.{inl, inr, ℕ, ◌≡◌, ◌≤◌, ◌&&◌, ◌||◌, ◌++◌, map, Bool, true, false, cond, List, [], ◌∷◌, Option, Some, None, Result, Ok, Err, OnOk, IfErr}
use Rattle.std.{proofs.Common.{lit≤, refl, sym, ap, ◌∙◌, subst}, specs.Prelude.{nat_eq, bytes_eq, is_some, option_map, Vec}, specs.List.{find, list_any, IsDistinct}}
use Rattle.std.{specs.Option.{option_or}, specs.declared.alloc.Global.{Global}, proofs.lemmas.List.{map-append}, proofs.lemmas.List.Folds.{find-append}}
use Rattle.std.proofs.lemmas.{List.Folds.{list_any-append}, Cmp.{nat_eq_equiv}, Map.Keys.{IsDistinct-push}}
use Rattle.std.specs.BTreeMap as tree
use Rattle.std.{specs.BTreeMap.{BTreeMap, is_at}, proofs.lemmas.Bool.{false≢true, or_parts}, specs.Cmp.Lexicographic.{slice_cmp}, specs.Ordering.{nat_cmp}}
use Rattle.ppdb_base.specs.declared.offsets.Run.{Run}
use Rattle.ppdb_maps.specs.{Map.{MethodLine, pair_cmp}, BitSets.{has_number, has_row}, Gathered.{row_key, cross_key, gone_key, method_key, signature_key, same_pair}}
use Rattle.ppdb_maps.specs.{Before.{methods_of, follows_method, row_in, cross_in, gone_in, has_image_in, method_in, signature_in}, Rules.{kind_of, Breaks}}
use Rattle.ppdb_maps.specs.{Rules.{BeginsEarly, EndsBeyond, run_alone, run_early, run_long}, Runs.{RefusesRun}, Drafts.{Holds, HoldsMethods, HasLines, IsClosed}}
use Rattle.ppdb_maps.specs.{Drafts.{RefusedBy, AddsLine}, declared.draft.Draft.{Draft}, declared.refusal.Refusal.{Refusal}}
use Rattle.ppdb_maps.specs.declared.{refusal.Refusal.TheVariants.{Breaks as refused, Memory}, line.Line.{Line}, line.Line.TheVariants.{Row, Cross, Gone, Method}}
use Rattle.ppdb_maps.specs.declared.{line.Line.TheVariants.{Kept, Slot, Signature, Document, Link, Shares}, entries.NameLine.{NameLine}, rule.Rule.{Rule}}
use Rattle.ppdb_maps.specs.declared.{rule.Rule.TheVariants.{NoMethod}, bit_set.BitSet.{BitSet}, bit_set.RowSet.{RowSet}, entries.RowLine.{RowLine}}
use Rattle.ppdb_maps.specs.declared.entries.{CrossLine.{CrossLine}, GoneLine.{GoneLine}, SignatureImage.{SignatureImage}}
use Rattle.ppdb_maps.proofs.{OneMap.{pair_equal, pair_is, same_number}, OneList.{any_is}, Refusing.{at_pair}}

some_or : {A : Type 0} (b : Bool) (x : A) (o : Option A) → (b || is_some o) ≡ is_some (cond b (Some x) o)
some_or true x o = refl
some_or false x o = refl

-- what is found by a key
abbrev find_at : {X : Type 0} → (X → ℕ) → ℕ → List X → Option X
find_at key k xs = find (λ x. nat_eq (key x) k) xs

pushed_at : {X V : Type 0} (value : X → V) (o : Option X) (x : X) (b : Bool) → (b ≡ true → is_some (option_map value o) ≡ false)
    → option_map value (option_or o (cond b (Some x) None)) ≡ cond b (Some (value x)) (option_map value o)
pushed_at value None x true fresh = refl
pushed_at value None x false fresh = refl
pushed_at value (Some other) x true fresh = absurd (false≢true (sym (fresh refl)))
pushed_at value (Some other) x false fresh = refl

-- what is said by a key, with one more item at the end at a key that was not there before
push_said : {X V : Type 0} (key : X → ℕ) (value : X → V) (xs : List X) (x : X) (said : ℕ → Option V)
    → ((k : ℕ) → option_map value (find_at key k xs) ≡ said k) → is_some (said (key x)) ≡ false → (k : ℕ)
    → option_map value (find_at key k (xs ++ x ∷ [])) ≡ cond (nat_eq (key x) k) (Some (value x)) (said k)
push_said key value xs x said same fresh k =
    ap (option_map value) (find-append (λ y. nat_eq (key y) k) xs (x ∷ []))
    ∙ (pushed_at value (find_at key k xs) x (nat_eq (key x) k)
    (λ is. ap is_some (same k) ∙ subst (λ j. is_some (said j) ≡ false) (same_number (key x) k is) fresh)
    ∙ ap (cond (nat_eq (key x) k) (Some (value x))) (same k))

itself : {X : Type 0} (o : Option X) → option_map (λ x. x) o ≡ o
itself None = refl
itself (Some x) = refl

push_found : {X : Type 0} (key : X → ℕ) (xs : List X) (x : X) (lines : List X) → ((k : ℕ) → find_at key k xs ≡ find_at key k lines)
    → is_some (find_at key (key x) lines) ≡ false → (k : ℕ) → find_at key k (xs ++ x ∷ []) ≡ cond (nat_eq (key x) k) (Some x) (find_at key k lines)
push_found key xs x lines same fresh k =
    sym (itself (find_at key k (xs ++ x ∷ [])))
    ∙ push_said key (λ y. y) xs x (λ j. find_at key j lines) (λ j. itself (find_at key j xs) ∙ same j) fresh k

some_said : {X V : Type 0} (value : X → V) (o : Option X) → is_some (option_map value o) ≡ false → is_some o ≡ false
some_said value None none = refl
some_said value (Some x) none = none

key_absent : {X : Type 0} (key : X → ℕ) (xs : List X) (k : ℕ) → is_some (find_at key k xs) ≡ false → list_any (nat_eq k) (map key xs) ≡ false
key_absent key [] k fresh = refl
key_absent key (x ∷ xs) k fresh = of (nat_eq (key x) k) refl fresh (key_absent key xs k)
  where
    of : (b : Bool) → nat_eq (key x) k ≡ b → is_some (cond b (Some x) (find_at key k xs)) ≡ false
        → (is_some (find_at key k xs) ≡ false → list_any (nat_eq k) (map key xs) ≡ false) → list_any (nat_eq k) (map key (x ∷ xs)) ≡ false
    of true is fresh rest = absurd (false≢true (sym fresh))
    of false is fresh rest = ap (λ b. b || list_any (nat_eq k) (map key xs)) (nat_eq_equiv.symm k (key x) ∙ is) ∙ rest fresh

push_distinct : {X : Type 0} (key : X → ℕ) (xs : List X) (x : X) → IsDistinct nat_eq (map key xs) → is_some (find_at key (key x) xs) ≡ false
    → IsDistinct nat_eq (map key (xs ++ x ∷ []))
push_distinct key xs x distinct fresh = subst (IsDistinct nat_eq) (sym (map-append key xs (x ∷ [])))
    (IsDistinct-push nat_eq_equiv (map key xs) (key x) distinct (key_absent key xs (key x) fresh))

-- what is found by a pair
abbrev find_pair : {X : Type 0} → (X → ℕ × ℕ) → ℕ → ℕ → List X → Option X
find_pair key a b xs = find (λ x. nat_eq (key x).0 a && nat_eq (key x).1 b) xs

-- what is said by a pair, with one more item at the end at a pair that was not there before
push_pair : {X V : Type 0} (key : X → ℕ × ℕ) (value : X → V) (xs : List X) (x : X) (said : ℕ → ℕ → Option V)
    → ((a b : ℕ) → option_map value (find_pair key a b xs) ≡ said a b) → is_some (said (key x).0 (key x).1) ≡ false → (a b : ℕ)
    → option_map value (find_pair key a b (xs ++ x ∷ [])) ≡ cond (nat_eq (key x).0 a && nat_eq (key x).1 b) (Some (value x)) (said a b)
push_pair key value xs x said same fresh a b =
    ap (option_map value) (find-append (λ y. nat_eq (key y).0 a && nat_eq (key y).1 b) xs (x ∷ []))
    ∙ (pushed_at value (find_pair key a b xs) x (nat_eq (key x).0 a && nat_eq (key x).1 b)
    (λ is. ap is_some (same a b) ∙ subst (λ (p : ℕ × ℕ). is_some (said p.0 p.1) ≡ false) (pair_is (key x) (a, b) is) fresh)
    ∙ ap (cond (nat_eq (key x).0 a && nat_eq (key x).1 b) (Some (value x))) (same a b))

pair_absent : {X : Type 0} (key : X → ℕ × ℕ) (xs : List X) (a b : ℕ) → is_some (find_pair key a b xs) ≡ false
    → list_any (same_pair (a, b)) (map key xs) ≡ false
pair_absent key [] a b fresh = refl
pair_absent key (x ∷ xs) a b fresh = of (nat_eq (key x).0 a && nat_eq (key x).1 b) refl fresh (pair_absent key xs a b)
  where
    turned : same_pair (a, b) (key x) ≡ (nat_eq (key x).0 a && nat_eq (key x).1 b)
    turned = pair_equal.symm (a, b) (key x)

    of : (t : Bool) → (nat_eq (key x).0 a && nat_eq (key x).1 b) ≡ t → is_some (cond t (Some x) (find_pair key a b xs)) ≡ false
        → (is_some (find_pair key a b xs) ≡ false → list_any (same_pair (a, b)) (map key xs) ≡ false)
        → list_any (same_pair (a, b)) (map key (x ∷ xs)) ≡ false
    of true is fresh rest = absurd (false≢true (sym fresh))
    of false is fresh rest = ap (λ t. t || list_any (same_pair (a, b)) (map key xs)) (turned ∙ is) ∙ rest fresh

pair_distinct : {X : Type 0} (key : X → ℕ × ℕ) (xs : List X) (x : X) → IsDistinct same_pair (map key xs)
    → is_some (find_pair key (key x).0 (key x).1 xs) ≡ false → IsDistinct same_pair (map key (xs ++ x ∷ []))
pair_distinct key xs x distinct fresh = subst (IsDistinct same_pair) (sym (map-append key xs (x ∷ [])))
    (IsDistinct-push pair_equal (map key xs) (key x) distinct (pair_absent key xs (key x).0 (key x).1 fresh))

-- a row has an image by the lines before the last, or by the last one
moved_by_row : {A : Type 0} (b : Bool) (x : A) (o : Option A) (rest : Bool) → (b || (is_some o || rest)) ≡ (is_some (cond b (Some x) o) || rest)
moved_by_row true x o rest = refl
moved_by_row false x o rest = refl

moved_by_cross : {A : Type 0} (b : Bool) (x : A) (row : Bool) (o : Option A) (gone : Bool)
    → (b || (row || (is_some o || gone))) ≡ (row || (is_some (cond b (Some x) o) || gone))
moved_by_cross true x true o gone = refl
moved_by_cross true x false o gone = refl
moved_by_cross false x row o gone = refl

moved_by_gone : (b row crossed gone : Bool) → (b || (row || (crossed || gone))) ≡ (row || (crossed || cond b true gone))
moved_by_gone true true crossed gone = refl
moved_by_gone true false true gone = refl
moved_by_gone true false false gone = refl
moved_by_gone false row crossed gone = refl

-- whether one is there, with one more item at the end
any_pushed : (b c : Bool) → (c || (b || false)) ≡ cond b true c
any_pushed true true = refl
any_pushed true false = refl
any_pushed false true = refl
any_pushed false false = refl

push_any : {X : Type 0} (p : X → Bool) (xs : List X) (x : X) (said : Bool) → list_any p xs ≡ said → list_any p (xs ++ x ∷ []) ≡ cond (p x) true said
push_any p xs x said same = list_any-append p xs (x ∷ []) ∙ any_pushed (p x) (list_any p xs) ∙ ap (cond (p x) true) same

pub none_held : (draft : Draft) → draft.counts.entries ≡ [] → draft.rows.items ≡ [] → draft.crossed.items ≡ [] → draft.gone.items ≡ []
    → ((table row : ℕ) → has_row draft.moved table row ≡ false) → draft.methods.items ≡ [] → ((number : ℕ) → has_number draft.listed number ≡ false)
    → draft.current ≡ None → draft.drops.keys ≡ [] → draft.slotted.keys ≡ [] → draft.slots.entries ≡ [] → draft.signatures.items ≡ []
    → ((number : ℕ) → has_number draft.signed number ≡ false) → draft.documents.entries ≡ [] → draft.link ≡ None
    → draft.shares ≡ false → Holds [] draft
unfolding IsDistinct
none_held draft counts rows crossed gone moved methods listed current drops slotted slots signatures signed documents link shares = record {
  others = record {
    counts = λ table. rw counts refl;
    rows = λ table old. rw rows refl;
    distinct = rw rows tt;
    crossed = λ table old. rw crossed refl;
    crossed_once = rw crossed tt;
    gone = λ table old. rw gone refl;
    gone_once = rw gone tt;
    moved = moved;
    drops = λ method. rw drops refl;
    slotted = λ method. rw slotted refl;
    slots = λ method old. rw slots refl;
    signatures = λ method. rw signatures refl;
    signed_once = rw signatures tt;
    signed = signed;
    documents = λ name. rw documents refl;
    link = link;
    shares = shares;
  };
  methods = subst (λ (m : Option MethodLine). HoldsMethods [] m draft) (sym current)
      (record { found = λ method. rw methods refl; distinct = rw methods tt; numbers = listed }, refl);
}

-- no line of the row is there
abbrev no_row : List Line → ℕ → ℕ → Type 0
no_row before t o = (is_some (row_in before t o) ≡ false) × (is_some (cross_in before t o) ≡ false) × (gone_in before t o ≡ false)

none_there : (before : List Line) (t o : ℕ) → has_image_in before t o ≡ false → no_row before t o
none_there before t o fresh =
    let first = or_parts (is_some (row_in before t o)) (is_some (cross_in before t o) || gone_in before t o) fresh in
    let others = or_parts (is_some (cross_in before t o)) (gone_in before t o) first.1 in
    (first.0, others.0, others.1)

pub row_added : (before : List Line) (draft : Draft) (rows : Vec RowLine Global) (moved : RowSet) (t o n : ℕ) → IsClosed before draft
    → has_image_in before t o ≡ false
    → rows.items ≡ draft.rows.items ++ record { table = t; old = o; new = n } ∷ []
    → ((a b : ℕ) → has_row moved a b ≡ (nat_eq t a && nat_eq o b || has_row draft.moved a b))
    → Holds (Row t o n ∷ before) (record draft { rows = rows; moved = moved })
row_added before draft rows moved t o n closed fresh pushes marks = record {
  others = record {
    counts = closed.others.counts;
    rows = λ a b.
        ap (λ rs. option_map (λ (r : RowLine). r.new) (find_pair row_key a b rs)) pushes
        ∙ push_pair row_key (λ (r : RowLine). r.new) draft.rows.items (record { table = t; old = o; new = n }) (row_in before)
        closed.others.rows (none_there before t o fresh).0 a b;
    distinct = subst (λ rs. IsDistinct same_pair (map row_key rs)) (sym pushes)
        (pair_distinct row_key draft.rows.items (record { table = t; old = o; new = n }) closed.others.distinct
        (some_said (λ (r : RowLine). r.new) (find_pair row_key t o draft.rows.items)
        (ap is_some (closed.others.rows t o) ∙ (none_there before t o fresh).0)));
    crossed = closed.others.crossed;
    crossed_once = closed.others.crossed_once;
    gone = closed.others.gone;
    gone_once = closed.others.gone_once;
    moved = λ a b.
        marks a b ∙ (ap (λ m. nat_eq t a && nat_eq o b || m) (closed.others.moved a b)
        ∙ moved_by_row (nat_eq t a && nat_eq o b) n (row_in before a b) (is_some (cross_in before a b) || gone_in before a b));
    drops = closed.others.drops;
    slotted = closed.others.slotted;
    slots = closed.others.slots;
    signatures = closed.others.signatures;
    signed_once = closed.others.signed_once;
    signed = closed.others.signed;
    documents = closed.others.documents;
    link = closed.others.link;
    shares = closed.others.shares;
  };
  methods = subst (λ (m : Option MethodLine). HoldsMethods (Row t o n ∷ before) m (record draft { rows = rows; moved = moved })) (sym closed.closed)
      (closed.methods, refl);
}

pub cross_added : (before : List Line) (draft : Draft) (crossed : Vec CrossLine Global) (moved : RowSet) (line : CrossLine) → IsClosed before draft
    → has_image_in before line.table line.old ≡ false
    → crossed.items ≡ draft.crossed.items ++ line ∷ []
    → ((a b : ℕ) → has_row moved a b ≡ (nat_eq line.table a && nat_eq line.old b || has_row draft.moved a b))
    → Holds (Cross line ∷ before) (record draft { crossed = crossed; moved = moved })
cross_added before draft crossed moved line closed fresh pushes marks = record {
  others = record {
    counts = closed.others.counts;
    rows = closed.others.rows;
    distinct = closed.others.distinct;
    crossed = λ a b.
        ap (λ rs. find_pair cross_key a b rs) pushes
        ∙ sym (itself (find_pair cross_key a b (draft.crossed.items ++ line ∷ [])))
        ∙ push_pair cross_key (λ r. r) draft.crossed.items line (cross_in before)
        (λ x y. itself (find_pair cross_key x y draft.crossed.items) ∙ closed.others.crossed x y)
        (none_there before line.table line.old fresh).1 a b;
    crossed_once = subst (λ rs. IsDistinct same_pair (map cross_key rs)) (sym pushes)
        (pair_distinct cross_key draft.crossed.items line closed.others.crossed_once
        (ap is_some (closed.others.crossed line.table line.old) ∙ (none_there before line.table line.old fresh).1));
    gone = closed.others.gone;
    gone_once = closed.others.gone_once;
    moved = λ a b.
        marks a b ∙ (ap (λ m. nat_eq line.table a && nat_eq line.old b || m) (closed.others.moved a b)
        ∙ moved_by_cross (nat_eq line.table a && nat_eq line.old b) line (is_some (row_in before a b)) (cross_in before a b) (gone_in before a b));
    drops = closed.others.drops;
    slotted = closed.others.slotted;
    slots = closed.others.slots;
    signatures = closed.others.signatures;
    signed_once = closed.others.signed_once;
    signed = closed.others.signed;
    documents = closed.others.documents;
    link = closed.others.link;
    shares = closed.others.shares;
  };
  methods = subst (λ (m : Option MethodLine). HoldsMethods (Cross line ∷ before) m (record draft { crossed = crossed; moved = moved }))
      (sym closed.closed) (closed.methods, refl);
}

pub gone_added : (before : List Line) (draft : Draft) (gone : Vec GoneLine Global) (moved : RowSet) (t o : ℕ) → IsClosed before draft
    → has_image_in before t o ≡ false
    → gone.items ≡ draft.gone.items ++ record { table = t; old = o } ∷ []
    → ((a b : ℕ) → has_row moved a b ≡ (nat_eq t a && nat_eq o b || has_row draft.moved a b))
    → Holds (Gone t o ∷ before) (record draft { gone = gone; moved = moved })
gone_added before draft gone moved t o closed fresh pushes marks = record {
  others = record {
    counts = closed.others.counts;
    rows = closed.others.rows;
    distinct = closed.others.distinct;
    crossed = closed.others.crossed;
    crossed_once = closed.others.crossed_once;
    gone = λ a b.
        ap (λ rs. list_any (λ (r : GoneLine). nat_eq r.table a && nat_eq r.old b) rs) pushes
        ∙ push_any (λ (r : GoneLine). nat_eq r.table a && nat_eq r.old b) draft.gone.items (record { table = t; old = o }) (gone_in before a b)
        (closed.others.gone a b);
    gone_once = subst (λ rs. IsDistinct same_pair (map gone_key rs)) (sym pushes)
        (pair_distinct gone_key draft.gone.items (record { table = t; old = o }) closed.others.gone_once
        (sym (any_is (λ (r : GoneLine). nat_eq r.table t && nat_eq r.old o) draft.gone.items)
        ∙ (closed.others.gone t o ∙ (none_there before t o fresh).2)));
    moved = λ a b.
        marks a b ∙ (ap (λ m. nat_eq t a && nat_eq o b || m) (closed.others.moved a b)
        ∙ moved_by_gone (nat_eq t a && nat_eq o b) (is_some (row_in before a b)) (is_some (cross_in before a b)) (gone_in before a b));
    drops = closed.others.drops;
    slotted = closed.others.slotted;
    slots = closed.others.slots;
    signatures = closed.others.signatures;
    signed_once = closed.others.signed_once;
    signed = closed.others.signed;
    documents = closed.others.documents;
    link = closed.others.link;
    shares = closed.others.shares;
  };
  methods = subst (λ (m : Option MethodLine). HoldsMethods (Gone t o ∷ before) m (record draft { gone = gone; moved = moved }))
      (sym closed.closed) (closed.methods, refl);
}

pub slot_added : (before : List Line) (draft : Draft) (slots : BTreeMap (ℕ × ℕ) ℕ) (m o n : ℕ) → IsClosed before draft
    → ((q : ℕ × ℕ) → tree.get pair_cmp slots q ≡ cond (is_at (pair_cmp (m, o)) q) (Some n) (tree.get pair_cmp draft.slots q))
    → Holds (Slot m o n ∷ before) (record draft { slots = slots })
slot_added before draft slots m o n closed updates = record {
  others = record {
    counts = closed.others.counts;
    rows = closed.others.rows;
    distinct = closed.others.distinct;
    crossed = closed.others.crossed;
    crossed_once = closed.others.crossed_once;
    gone = closed.others.gone;
    gone_once = closed.others.gone_once;
    moved = closed.others.moved;
    drops = closed.others.drops;
    slotted = closed.others.slotted;
    slots = λ a b. updates (a, b) ∙ rw (at_pair m o a b, closed.others.slots a b) refl;
    signatures = closed.others.signatures;
    signed_once = closed.others.signed_once;
    signed = closed.others.signed;
    documents = closed.others.documents;
    link = closed.others.link;
    shares = closed.others.shares;
  };
  methods = subst (λ (l : Option MethodLine). HoldsMethods (Slot m o n ∷ before) l (record draft { slots = slots })) (sym closed.closed) (closed.methods, refl);
}

pub signature_added : (before : List Line) (draft : Draft) (signatures : Vec SignatureImage Global) (signed : BitSet) (m n : ℕ) → IsClosed before draft
    → is_some (signature_in before m) ≡ false
    → signatures.items ≡ draft.signatures.items ++ record { method = m; new = n } ∷ []
    → ((a : ℕ) → has_number signed a ≡ (nat_eq m a || has_number draft.signed a))
    → Holds (Signature m n ∷ before) (record draft { signatures = signatures; signed = signed })
signature_added before draft signatures signed m n closed fresh pushes marks = record {
  others = record {
    counts = closed.others.counts;
    rows = closed.others.rows;
    distinct = closed.others.distinct;
    crossed = closed.others.crossed;
    crossed_once = closed.others.crossed_once;
    gone = closed.others.gone;
    gone_once = closed.others.gone_once;
    moved = closed.others.moved;
    drops = closed.others.drops;
    slotted = closed.others.slotted;
    slots = closed.others.slots;
    signatures = λ k.
        ap (λ ss. option_map (λ (s : SignatureImage). s.new) (find_at signature_key k ss)) pushes
        ∙ push_said signature_key (λ (s : SignatureImage). s.new) draft.signatures.items (record { method = m; new = n })
        (signature_in before) closed.others.signatures fresh k;
    signed_once = subst (λ ss. IsDistinct nat_eq (map signature_key ss)) (sym pushes)
        (push_distinct signature_key draft.signatures.items (record { method = m; new = n }) closed.others.signed_once
        (some_said (λ (s : SignatureImage). s.new) (find_at signature_key m draft.signatures.items) (ap is_some (closed.others.signatures m) ∙ fresh)));
    signed = λ k. marks k ∙ (ap (λ b. nat_eq m k || b) (closed.others.signed k) ∙ some_or (nat_eq m k) n (signature_in before k));
    documents = closed.others.documents;
    link = closed.others.link;
    shares = closed.others.shares;
  };
  methods = subst (λ (l : Option MethodLine). HoldsMethods (Signature m n ∷ before) l (record draft { signatures = signatures; signed = signed }))
      (sym closed.closed) (closed.methods, refl);
}

pub document_added : (before : List Line) (draft : Draft) (documents : BTreeMap (Vec ℕ Global) (List ℕ)) (d : NameLine) → IsClosed before draft
    → ((name : List ℕ) → tree.get_by (λ key. slice_cmp nat_cmp name key.items) documents
    ≡ cond (bytes_eq d.old name) (Some d.new) (tree.get_by (λ key. slice_cmp nat_cmp name key.items) draft.documents))
    → Holds (Document d ∷ before) (record draft { documents = documents })
document_added before draft documents d closed updates = record {
  others = record {
    counts = closed.others.counts;
    rows = closed.others.rows;
    distinct = closed.others.distinct;
    crossed = closed.others.crossed;
    crossed_once = closed.others.crossed_once;
    gone = closed.others.gone;
    gone_once = closed.others.gone_once;
    moved = closed.others.moved;
    drops = closed.others.drops;
    slotted = closed.others.slotted;
    slots = closed.others.slots;
    signatures = closed.others.signatures;
    signed_once = closed.others.signed_once;
    signed = closed.others.signed;
    documents = λ name. updates name ∙ ap (cond (bytes_eq d.old name) (Some d.new)) (closed.others.documents name);
    link = closed.others.link;
    shares = closed.others.shares;
  };
  methods = subst (λ (l : Option MethodLine). HoldsMethods (Document d ∷ before) l (record draft { documents = documents }))
      (sym closed.closed) (closed.methods, refl);
}

pub link_added : (before : List Line) (draft : Draft) (value : List ℕ) → IsClosed before draft → Holds (Link value ∷ before) (record draft { link = Some value })
link_added before draft value closed = record {
  others = record {
    counts = closed.others.counts;
    rows = closed.others.rows;
    distinct = closed.others.distinct;
    crossed = closed.others.crossed;
    crossed_once = closed.others.crossed_once;
    gone = closed.others.gone;
    gone_once = closed.others.gone_once;
    moved = closed.others.moved;
    drops = closed.others.drops;
    slotted = closed.others.slotted;
    slots = closed.others.slots;
    signatures = closed.others.signatures;
    signed_once = closed.others.signed_once;
    signed = closed.others.signed;
    documents = closed.others.documents;
    link = refl;
    shares = closed.others.shares;
  };
  methods = subst (λ (l : Option MethodLine). HoldsMethods (Link value ∷ before) l (record draft { link = Some value })) (sym closed.closed) (closed.methods, refl);
}

pub shares_added : (before : List Line) (draft : Draft) → IsClosed before draft → Holds (Shares ∷ before) (record draft { shares = true })
shares_added before draft closed = record {
  others = record {
    counts = closed.others.counts;
    rows = closed.others.rows;
    distinct = closed.others.distinct;
    crossed = closed.others.crossed;
    crossed_once = closed.others.crossed_once;
    gone = closed.others.gone;
    gone_once = closed.others.gone_once;
    moved = closed.others.moved;
    drops = closed.others.drops;
    slotted = closed.others.slotted;
    slots = closed.others.slots;
    signatures = closed.others.signatures;
    signed_once = closed.others.signed_once;
    signed = closed.others.signed;
    documents = closed.others.documents;
    link = closed.others.link;
    shares = refl;
  };
  methods = subst (λ (l : Option MethodLine). HoldsMethods (Shares ∷ before) l (record draft { shares = true })) (sym closed.closed) (closed.methods, refl);
}

-- the open method is put at the end of the others
pub method_closed : (before : List Line) (draft : Draft) (methods : Vec MethodLine Global) (listed : BitSet) (line : MethodLine) → Holds before draft
    → draft.current ≡ Some line → methods.items ≡ draft.methods.items ++ line ∷ []
    → ((a : ℕ) → has_number listed a ≡ (nat_eq line.method a || has_number draft.listed a))
    → IsClosed before (record draft { methods = methods; listed = listed; current = None })
method_closed before draft methods listed line holds is pushes marks = record {
  others = record {
    counts = holds.others.counts;
    rows = holds.others.rows;
    distinct = holds.others.distinct;
    crossed = holds.others.crossed;
    crossed_once = holds.others.crossed_once;
    gone = holds.others.gone;
    gone_once = holds.others.gone_once;
    moved = holds.others.moved;
    drops = holds.others.drops;
    slotted = holds.others.slotted;
    slots = holds.others.slots;
    signatures = holds.others.signatures;
    signed_once = holds.others.signed_once;
    signed = holds.others.signed;
    documents = holds.others.documents;
    link = holds.others.link;
    shares = holds.others.shares;
  };
  methods = lines_now (subst (λ (m : Option MethodLine). HoldsMethods before m draft) is holds.methods);
  closed = refl;
}
  where
    lines_now : HoldsMethods before (Some line) draft → HasLines (methods_of before) (record draft { methods = methods; listed = listed; current = None })
    lines_now h = record {
      found = λ k.
          ap (λ ls. find_at method_key k ls) pushes ∙ (push_found method_key draft.methods.items line h.0 h.2.found h.4 k ∙ ap (λ ls. find_at method_key k ls) (sym h.1));
      distinct = subst (λ ls. IsDistinct nat_eq (map method_key ls)) (sym pushes)
          (push_distinct method_key draft.methods.items line h.2.distinct (ap is_some (h.2.found line.method) ∙ h.4));
      numbers = λ k.
          marks k ∙ (ap (λ b. nat_eq line.method k || b) (h.2.numbers k) ∙ (some_or (nat_eq line.method k) line (find_at method_key k h.0)
          ∙ ap (λ ls. is_some (find_at method_key k ls)) (sym h.1)));
    }

pub method_added : (before : List Line) (draft : Draft) (m o n : ℕ) → IsClosed before draft → is_some (method_in before m) ≡ false
    → Holds (Method m o n ∷ before) (record draft { current = Some (record { method = m; old_size = o; new_size = n; runs = [] }) })
method_added before draft m o n closed fresh = record {
  others = record {
    counts = closed.others.counts;
    rows = closed.others.rows;
    distinct = closed.others.distinct;
    crossed = closed.others.crossed;
    crossed_once = closed.others.crossed_once;
    gone = closed.others.gone;
    gone_once = closed.others.gone_once;
    moved = closed.others.moved;
    drops = closed.others.drops;
    slotted = closed.others.slotted;
    slots = closed.others.slots;
    signatures = closed.others.signatures;
    signed_once = closed.others.signed_once;
    signed = closed.others.signed;
    documents = closed.others.documents;
    link = closed.others.link;
    shares = closed.others.shares;
  };
  methods = (methods_of before, refl, closed.methods, refl, fresh);
}

-- a run is refused where no method is open
pub run_unowned : (before : List Line) (draft : Draft) (run : Run) → Holds before draft → draft.current ≡ None → RefusedBy before (Kept run) (refused NoMethod)
run_unowned before draft run holds is =
    let h : HoldsMethods before None draft = subst (λ (m : Option MethodLine). HoldsMethods before m draft) is holds.methods in
    (run_alone h.1, λ other b. least other b)
  where
    least : (other : Rule) → Breaks before other (Kept run) → 6 ≤ kind_of other
    least other (run_alone h) = lit≤ tt
    least other (run_early e h) = lit≤ tt
    least other (run_long e h) = lit≤ tt

first_line : (before : List Line) (line other : MethodLine) (lines others : List MethodLine) → methods_of before ≡ line ∷ lines
    → methods_of before ≡ other ∷ others → other ≡ line
first_line before line other lines others a b = let e : line ∷ lines ≡ other ∷ others = sym a ∙ b in cc

-- a run that an open method took, or refused
pub run_added : (before : List Line) (draft : Draft) (line taken : MethodLine) (run : Run) (result : Result (Unit {0}) Refusal) → Holds before draft
    → draft.current ≡ Some line
    → OnOk result (taken ≡ record line { runs = line.runs ++ run ∷ [] }) → OnOk result ((BeginsEarly run line.runs → ⊥) × (EndsBeyond run line → ⊥))
    → IfErr result (RefusesRun run line) → AddsLine before (Kept run) result (record draft { current = Some taken })
run_added before draft line taken run result holds is added kept why =
    of result (subst (λ (m : Option MethodLine). HoldsMethods before m draft) is holds.methods) added kept why
  where
    follows : follows_method before ≡ true → follows_method before ≡ false → ⊥
    follows there absent = false≢true (sym absent ∙ there)

    of : (result : Result (Unit {0}) Refusal) → HoldsMethods before (Some line) draft
        → OnOk result (taken ≡ record line { runs = line.runs ++ run ∷ [] }) → OnOk result ((BeginsEarly run line.runs → ⊥) × (EndsBeyond run line → ⊥))
        → IfErr result (RefusesRun run line) → AddsLine before (Kept run) result (record draft { current = Some taken })
    of (Ok u) h added kept why = (
      record {
        others = record {
          counts = holds.others.counts;
          rows = holds.others.rows;
          distinct = holds.others.distinct;
          crossed = holds.others.crossed;
          crossed_once = holds.others.crossed_once;
          gone = holds.others.gone;
          gone_once = holds.others.gone_once;
          moved = holds.others.moved;
          drops = holds.others.drops;
          slotted = holds.others.slotted;
          slots = holds.others.slots;
          signatures = holds.others.signatures;
          signed_once = holds.others.signed_once;
          signed = holds.others.signed;
          documents = holds.others.documents;
          link = holds.others.link;
          shares = holds.others.shares;
        };
        methods = (h.0, rw (h.1, added) refl, h.2, h.3, rw added h.4);
      },
      λ rule b. keeps rule b,
    )
      where
        keeps : (rule : Rule) → Breaks before rule (Kept run) → ⊥
        keeps rule (run_alone k) = follows h.3 k
        keeps rule (run_early {line = other} e k) = kept.0 (subst (λ (l : MethodLine). BeginsEarly run l.runs) (first_line before line other h.0 _ h.1 e) k)
        keeps rule (run_long {line = other} e k) = kept.1 (subst (λ (l : MethodLine). EndsBeyond run l) (first_line before line other h.0 _ h.1 e) k)
    of (Err Memory) h added kept why = tt
    of (Err (refused rule)) h added kept (inl w) =
        subst (λ (r : Rule). RefusedBy before (Kept run) (refused r)) (sym w.0) (run_early h.1 w.1, λ other b. least other b)
      where
        least : (other : Rule) → Breaks before other (Kept run) → 7 ≤ kind_of other
        least other (run_alone k) = absurd (follows h.3 k)
        least other (run_early e k) = lit≤ tt
        least other (run_long e k) = lit≤ tt
    of (Err (refused rule)) h added kept (inr w) =
        subst (λ (r : Rule). RefusedBy before (Kept run) (refused r)) (sym w.0) (run_long h.1 w.2, λ other b. least other b)
      where
        least : (other : Rule) → Breaks before other (Kept run) → 8 ≤ kind_of other
        least other (run_alone k) = absurd (follows h.3 k)
        least other (run_early {line = early} e k) = absurd
            (w.1 (subst (λ (l : MethodLine). BeginsEarly run l.runs) (first_line before line early h.0 _ h.1 e) k))
        least other (run_long e k) = lit≤ tt
