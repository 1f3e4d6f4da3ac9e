-- What is known once the lines of a text were read down to some line: what they answer, and what is still ahead.
use Rattle.std.proofs.Common.{ℕ, ◌≡◌, ◌≤◌, ◌⊎◌, ◌&&◌, ◌||◌, ◌++◌, Bool, true, false, cond, List, [], ◌∷◌, Option, Some, None, refl, sym, ap, ◌∙◌, subst, inl, inr}
use Rattle.std.{proofs.Common.{map, lit≤, arith}, specs.Prelude.{nat_eq, bytes_eq, is_some}, specs.Cmp.Lexicographic.{slice_cmp, nat_list_cmp_total}}
use Rattle.std.{specs.List.{AllByRecursion, find}, specs.Ordering.{nat_cmp}, specs.declared.cmp.Ordering.TheVariants.{Less}, proofs.lemmas.Bool.{false≢true, eq-eqb}}
use Rattle.std.proofs.lemmas.{Cmp.{nat_cmp_total}, List.{append_assoc}}
use Rattle.ppdb_maps.specs.declared.entries.{Count.{Count}, RowLine.{RowLine}, CrossLine.{CrossLine}, GoneLine.{GoneLine}, SlotImage.{SlotImage}}
use Rattle.ppdb_maps.specs.declared.{entries.SignatureImage.{SignatureImage}, entries.NameLine.{NameLine}, line.Line.{Line}, line.Line.TheVariants.{Rows, Row}}
use Rattle.ppdb_maps.specs.{declared.line.Line.TheVariants.{Cross, Gone, Dropped, Slots, Document}, declared.rule.Rule.{Rule}, Before.{count_in, row_in, cross_in}}
use Rattle.ppdb_maps.specs.Before.{gone_in, has_image_in, shares_in, method_in, methods_of, drop_in, slots_in, slot_in, signature_in, document_in, link_in}
use Rattle.ppdb_maps.specs.{Gathered.{same_pair}, Map.{Map, MethodLine, pair_cmp, count_of, row_line, cross_line, has_gone_line, is_dropped, has_slots, slot_line}}
use Rattle.ppdb_maps.specs.{Map.{signature_line, document_line}, Readable.{IsCount, IsRow, IsRowOf, IsCrossOf, IsGoneOf, IsSlottedOf, IsSlotOf, IsSignatureOf}}
use Rattle.ppdb_maps.specs.{Readable.{AreNames}, Rules.{Breaks, second_rows, second_drop, second_slots, drop_named, dropped_slots}, Text.{Read, further}}
use Rattle.ppdb_maps.proofs.{OneMap.{same_number, pair_is, pair_total}, Named.{same_bytes}, Refusing.{slot_keeps, signature_keeps, document_keeps, row_keeps}}
use Rattle.ppdb_maps.proofs.{Refusing.{cross_keeps, gone_keeps}, Saying.{breaks_said}}
use Rattle.ppdb_maps_text.{specs.MapTexts.{version_of, has_items, line_text}, proofs.Ahead.{Ahead, AheadOf, ahead_same, none_ahead, not_yet, steps, not_before}}
use Rattle.ppdb_maps_text.proofs.{Ahead.{before, not_yet_of, steps_of, not_before_of, none_of_them, before_of}, OneLine.{has_line}, Told.{IsTold, rows_told}}
use Rattle.ppdb_maps_text.proofs.{Told.{row_told, cross_told, gone_told, drop_told, slots_told, slot_told, signature_told, document_told}, Words.{IsPlain}}
use Rattle.ppdb_maps_text.proofs.Parts.{slot_says, signature_says, has_newer}

-- a row with a line, by its table and its number
abbrev pub RowKey : Type 0
RowKey = ℕ × ℕ

abbrev pub key_of : RowKey → ℕ × ℕ
key_of k = (k.0, k.1)

abbrev pub no_value : RowKey → Unit {0}
no_value k = tt

-- whether there is a line
abbrev pub there_if : Bool → Option (Unit {0})
there_if b = cond b (Some tt) None

-- the lines that were read say of the row what the map says
abbrev pub SameImage : Map → List Line → ℕ → ℕ → Type 0
SameImage m said table old =
    (row_in said table old ≡ row_line m table old) × (cross_in said table old ≡ cross_line m table old)
    × (gone_in said table old ≡ has_gone_line m table old)

abbrev pub ImagesAhead : Map → List Line → List RowKey → Type 0
ImagesAhead m said ks =
    Ahead key_of no_value same_pair pair_cmp (λ k. there_if (has_image_in said k.0 k.1)) ks (λ k. there_if (has_line m k.0 k.1))

pub record Got (m : Map) (texts : List (List ℕ)) (after : List Line) (cs : List Count) (ks : List RowKey) (ds ss : List ℕ) (sl : List SlotImage)
    (sg : List SignatureImage) (ns : List NameLine) (Rest : List Line → Type 0) : Type 0 where
  pub said : List Line
  pub prefix : List (List ℕ)
  pub read : Read (version_of m) prefix said
  pub plain : AllByRecursion IsPlain prefix
  pub whole : prefix ++ map line_text after ≡ texts
  pub counts : Ahead (λ (c : Count). c.table) (λ (c : Count). c.rows) nat_eq nat_cmp (λ t. count_in said t) cs (λ t. count_of m t)
  pub images : ImagesAhead m said ks
  pub same : (table old : ℕ) → has_image_in said table old ≡ true → SameImage m said table old
  pub drops : AheadOf (λ n. drop_in said n) ds (λ n. is_dropped m n)
  pub slotted : AheadOf (λ n. slots_in said n) ss (λ n. has_slots m n)
  pub slots : Ahead (λ (s : SlotImage). (s.method, s.old)) (λ (s : SlotImage). s.new) same_pair pair_cmp (λ k. slot_in said k.0 k.1) sl
      (λ k. slot_line m k.0 k.1)
  pub signatures : Ahead (λ (s : SignatureImage). s.method) (λ (s : SignatureImage). s.new) nat_eq nat_cmp (λ n. signature_in said n) sg
      (λ n. signature_line m n)
  pub documents : Ahead (λ (d : NameLine). d.old) (λ (d : NameLine). d.new) bytes_eq (slice_cmp nat_cmp) (λ n. document_in said n) ns
      (λ n. document_line m n)
  pub link : link_in said ≡ m.link
  pub shares : shares_in said ≡ m.shares
  pub rest : Rest said

-- ---- the version of the text

or_right : (a b : Bool) → b ≡ true → (a || b) ≡ true
or_right true b is = refl
or_right false b is = is

or_left : (a b : Bool) → a ≡ true → (a || b) ≡ true
or_left a b is = ap (λ c. c || b) is

-- a text with a line of version 4 is of this version
newer : (m : Map) → has_newer m ≡ true → 4 ≤ version_of m
newer m is = rw is (lit≤ tt)

pub shares_newer : (m : Map) → m.shares ≡ true → 4 ≤ version_of m
shares_newer m is = newer m (or_left m.shares _ is)

pub link_newer : (m : Map) (value : List ℕ) → m.link ≡ Some value → 4 ≤ version_of m
link_newer m value is = newer m (or_right m.shares _ (or_left (is_some m.link) _ (ap is_some is)))

pub crossed_newer : (m : Map) → has_items m.crossed ≡ true → 4 ≤ version_of m
crossed_newer m is = newer m (or_right m.shares _ (or_right (is_some m.link) _ (or_left (has_items m.crossed) _ is)))

pub gone_newer : (m : Map) → has_items m.gone ≡ true → 4 ≤ version_of m
gone_newer m is = newer m (or_right m.shares _ (or_right (is_some m.link) _ (or_right (has_items m.crossed) _ (or_left (has_items m.gone) _ is))))

pub signatures_newer : (m : Map) (s : SignatureImage) (ss : List SignatureImage) → m.signatures ≡ s ∷ ss → 4 ≤ version_of m
signatures_newer m s ss is =
    newer m (or_right m.shares _ (or_right (is_some m.link) _ (or_right (has_items m.crossed) _ (or_right (has_items m.gone) _
    (or_left (has_items m.signatures) _ (ap has_items is))))))

pub documents_newer : (m : Map) (d : NameLine) (ds : List NameLine) → m.documents ≡ d ∷ ds → 4 ≤ version_of m
documents_newer m d ds is =
    newer m (or_right m.shares _ (or_right (is_some m.link) _ (or_right (has_items m.crossed) _ (or_right (has_items m.gone) _
    (or_right (has_items m.signatures) _ (ap has_items is))))))

-- a text is of version 3 or 4
pub version_known : (m : Map) → (version_of m ≡ 3) ⊎ (version_of m ≡ 4)
version_known m = of (has_newer m)
  where
    of : (b : Bool) → (◌≡◌ {A = ℕ} (cond b 4 3) 3) ⊎ (◌≡◌ {A = ℕ} (cond b 4 3) 4)
    of true = inr refl
    of false = inl refl

pub from_three : (m : Map) → 3 ≤ version_of m
from_three m = elim (version_known m) [ inl e ↦ omega (arith, e) | inr e ↦ omega (arith, e) ]

-- no `method` line was read
abbrev pub NoMethods : List Line → Type 0
NoMethods said = methods_of said ≡ []

all_then : (P : List ℕ → Type 0) (xs : List (List ℕ)) (x : List ℕ) → AllByRecursion P xs → P x → AllByRecursion P (xs ++ x ∷ [])
all_then P [] x all is = (is, tt)
all_then P (y ∷ ys) x all is = (all.0, all_then P ys x all.1 is)

-- one line more
pub read_on : (version : ℕ) (prefix texts : List (List ℕ)) (said after : List Line) (line : Line) → Read version prefix said → AllByRecursion IsPlain prefix
    → prefix ++ map line_text (line ∷ after) ≡ texts → IsTold version line → ((rule : Rule) → Breaks said rule line → ⊥)
    → Read version (prefix ++ line_text line ∷ []) (line ∷ said) × AllByRecursion IsPlain (prefix ++ line_text line ∷ [])
    × ((prefix ++ line_text line ∷ []) ++ map line_text after ≡ texts)
read_on version prefix texts said after line read plain whole told keeps = (
  further read told.tells (λ rule broken. keeps rule (breaks_said version said (line_text line) line rule told.tells broken)),
  all_then IsPlain prefix (line_text line) plain told.plain,
  append_assoc prefix (line_text line ∷ []) (map line_text after) ∙ whole,
)

rows_keep : (said : List Line) (t n : ℕ) → is_some (count_in said t) ≡ false → (rule : Rule) → Breaks said rule (Rows t n) → ⊥
rows_keep said t n new rule (second_rows h) = false≢true (sym new ∙ h)

drop_keeps : (said : List Line) (d : ℕ) → drop_in said d ≡ false → is_some (method_in said d) ≡ false → has_image_in said 0x06 d ≡ false
    → slots_in said d ≡ false → is_some (signature_in said d) ≡ false → (rule : Rule) → Breaks said rule (Dropped d) → ⊥
drop_keeps said d new method row slots signature rule (second_drop h) = false≢true (sym new ∙ h)
drop_keeps said d new method row slots signature rule (drop_named h) = elim h [
  | inl a ↦ false≢true (sym method ∙ a)
  | inr b ↦ elim b [ inl a ↦ false≢true (sym row ∙ a) | inr e ↦ elim e [ inl a ↦ false≢true (sym slots ∙ a) | inr a ↦ false≢true (sym signature ∙ a) ] ]
]

slots_keep : (said : List Line) (s : ℕ) → slots_in said s ≡ false → drop_in said s ≡ false → (rule : Rule) → Breaks said rule (Slots s) → ⊥
slots_keep said s new drop rule (second_slots h) = false≢true (sym new ∙ h)
slots_keep said s new drop rule (dropped_slots h) = false≢true (sym drop ∙ h)

-- ---- a line of a row

same_itself : (t o : ℕ) → same_pair (t, o) (t, o) ≡ true
same_itself t o = ap (λ b. b && nat_eq o o) (eq-eqb t t refl) ∙ eq-eqb o o refl

-- the line says something of this row, and nothing of others
record Adds (said : List Line) (line : Line) (t o : ℕ) : Type 0 where
  pub rows : (u k : ℕ) → same_pair (t, o) (u, k) ≡ false → row_in (line ∷ said) u k ≡ row_in said u k
  pub crossed : (u k : ℕ) → same_pair (t, o) (u, k) ≡ false → cross_in (line ∷ said) u k ≡ cross_in said u k
  pub gone : (u k : ℕ) → same_pair (t, o) (u, k) ≡ false → gone_in (line ∷ said) u k ≡ gone_in said u k
  pub told : has_image_in (line ∷ said) t o ≡ true

row_adds : (said : List Line) (t o n : ℕ) → Adds said (Row t o n) t o
row_adds said t o n = record {
  rows = λ u k miss. ap (λ b. cond b (Some n) (row_in said u k)) miss;
  crossed = λ u k miss. refl;
  gone = λ u k miss. refl;
  told = or_left (is_some (row_in (Row t o n ∷ said) t o)) _ (ap (λ b. is_some (cond b (Some n) (row_in said t o))) (same_itself t o));
}

cross_adds : (said : List Line) (line : CrossLine) → Adds said (Cross line) line.table line.old
cross_adds said line = record {
  rows = λ u k miss. refl;
  crossed = λ u k miss. ap (λ b. cond b (Some line) (cross_in said u k)) miss;
  gone = λ u k miss. refl;
  told = or_right (is_some (row_in said line.table line.old)) _
      (or_left (is_some (cross_in (Cross line ∷ said) line.table line.old)) _
      (ap (λ b. is_some (cond b (Some line) (cross_in said line.table line.old))) (same_itself line.table line.old)));
}

gone_adds : (said : List Line) (t o : ℕ) → Adds said (Gone t o) t o
gone_adds said t o = record {
  rows = λ u k miss. refl;
  crossed = λ u k miss. refl;
  gone = λ u k miss. ap (λ b. cond b true (gone_in said u k)) miss;
  told = or_right (is_some (row_in said t o)) _
      (or_right (is_some (cross_in said t o)) _ (ap (λ b. cond b true (gone_in said t o)) (same_itself t o)));
}

not_there : (b : Bool) → is_some (there_if b) ≡ false → b ≡ false
not_there true is = is
not_there false is = refl

-- no line was read of a row of which none says anything
pub record Unsaid (said : List Line) (t o : ℕ) : Type 0 where
  pub row : row_in said t o ≡ None
  pub crossed : cross_in said t o ≡ None
  pub gone : gone_in said t o ≡ false

pub unsaid : (said : List Line) (t o : ℕ) → has_image_in said t o ≡ false → Unsaid said t o
unsaid said t o is = of (row_in said t o) (cross_in said t o) (gone_in said t o) refl refl refl is
  where
    of : (a : Option ℕ) (b : Option CrossLine) (c : Bool) → row_in said t o ≡ a → cross_in said t o ≡ b → gone_in said t o ≡ c
        → (is_some a || (is_some b || c)) ≡ false → Unsaid said t o
    of (Some n) b c x y z is = absurd (false≢true (sym is))
    of None (Some l) c x y z is = absurd (false≢true (sym is))
    of None None true x y z is = absurd (false≢true (sym is))
    of None None false x y z is = record { row = x; crossed = y; gone = z }

images_step : (m : Map) (said : List Line) (line : Line) (t o : ℕ) (ks : List RowKey) → Adds said line t o → ImagesAhead m said ((t, o) ∷ ks)
    → ImagesAhead m (line ∷ said) ks
images_step m said line t o ks adds ahead =
    ahead_same key_of no_value same_pair pair_cmp _ (λ k. there_if (has_image_in (line ∷ said) k.0 k.1)) ks (λ k. there_if (has_line m k.0 k.1))
    (λ k. of k (same_pair (t, o) k) refl)
    (steps key_of no_value same_pair pair_cmp pair_is pair_total (λ k. there_if (has_image_in said k.0 k.1)) (t, o) ks (λ k. there_if (has_line m k.0 k.1)) ahead)
  where
    of : (k : ℕ × ℕ) (b : Bool) → same_pair (t, o) k ≡ b
        → cond (same_pair (t, o) k) (Some tt) (there_if (has_image_in said k.0 k.1)) ≡ there_if (has_image_in (line ∷ said) k.0 k.1)
    of k true hit =
        ap (λ b. cond b (Some tt) (there_if (has_image_in said k.0 k.1))) hit
        ∙ sym (ap there_if (subst (λ (j : ℕ × ℕ). has_image_in (line ∷ said) j.0 j.1 ≡ true) (pair_is (t, o) k hit) adds.told))
    of k false miss =
        ap (λ b. cond b (Some tt) (there_if (has_image_in said k.0 k.1))) miss
        ∙ sym (ap (λ a. there_if (is_some a || (is_some (cross_in (line ∷ said) k.0 k.1) || gone_in (line ∷ said) k.0 k.1))) (adds.rows k.0 k.1 miss)
        ∙ ap (λ a. there_if (is_some (row_in said k.0 k.1) || (is_some a || gone_in (line ∷ said) k.0 k.1))) (adds.crossed k.0 k.1 miss)
        ∙ ap (λ a. there_if (is_some (row_in said k.0 k.1) || (is_some (cross_in said k.0 k.1) || a))) (adds.gone k.0 k.1 miss))

same_step : (m : Map) (said : List Line) (line : Line) (t o : ℕ) → Adds said line t o → SameImage m (line ∷ said) t o
    → ((u k : ℕ) → has_image_in said u k ≡ true → SameImage m said u k) → (u k : ℕ) → has_image_in (line ∷ said) u k ≡ true → SameImage m (line ∷ said) u k
same_step m said line t o adds this others u k is = of (same_pair (t, o) (u, k)) refl
  where
    of : (b : Bool) → same_pair (t, o) (u, k) ≡ b → SameImage m (line ∷ said) u k
    of true hit = subst (λ (j : ℕ × ℕ). SameImage m (line ∷ said) j.0 j.1) (pair_is (t, o) (u, k) hit) this
    of false miss =
        let there : has_image_in said u k ≡ true =
        sym (ap (λ a. is_some a || (is_some (cross_in (line ∷ said) u k) || gone_in (line ∷ said) u k)) (adds.rows u k miss)
        ∙ ap (λ a. is_some (row_in said u k) || (is_some a || gone_in (line ∷ said) u k)) (adds.crossed u k miss)
        ∙ ap (λ a. is_some (row_in said u k) || (is_some (cross_in said u k) || a)) (adds.gone u k miss)) ∙ is in
        let h = others u k there in
        (adds.rows u k miss ∙ h.0, adds.crossed u k miss ∙ h.1, adds.gone u k miss ∙ h.2)

module _ (m : Map) (texts : List (List ℕ)) where
  abbrev version : ℕ
  version = version_of m

  pub add_count : (after : List Line) (c : Count) (cs : List Count) (ks : List RowKey) (ds ss : List ℕ) (sl : List SlotImage)
      (sg : List SignatureImage) (ns : List NameLine) → IsCount c
      → Got m texts (Rows c.table c.rows ∷ after) (c ∷ cs) ks ds ss sl sg ns NoMethods → Got m texts after cs ks ds ss sl sg ns NoMethods
  add_count after c cs ks ds ss sl sg ns is g =
      let new = not_yet (λ (c : Count). c.table) (λ (c : Count). c.rows) nat_eq nat_cmp same_number nat_cmp_total (λ t. count_in g.said t) c cs
      (λ t. count_of m t) g.counts in
      let next = read_on version g.prefix texts g.said after (Rows c.table c.rows) g.read g.plain g.whole (rows_told version (from_three m) c.table c.rows is.0 is.1)
      (rows_keep g.said c.table c.rows new) in
      record {
        said = Rows c.table c.rows ∷ g.said;
        prefix = g.prefix ++ line_text (Rows c.table c.rows) ∷ [];
        read = next.0;
        plain = next.1;
        whole = next.2;
        counts = steps (λ (c : Count). c.table) (λ (c : Count). c.rows) nat_eq nat_cmp same_number nat_cmp_total (λ t. count_in g.said t) c cs
            (λ t. count_of m t) g.counts;
        images = g.images;
        same = g.same;
        drops = g.drops;
        slotted = g.slotted;
        slots = g.slots;
        signatures = g.signatures;
        documents = g.documents;
        link = g.link;
        shares = g.shares;
        rest = g.rest;
      }

  -- the next row has no line yet
  fresh : (t o : ℕ) (ks : List RowKey) (said : List Line) → ImagesAhead m said ((t, o) ∷ ks) → has_image_in said t o ≡ false
  fresh t o ks said ahead = not_there (has_image_in said t o)
      (not_yet key_of no_value same_pair pair_cmp pair_is pair_total (λ k. there_if (has_image_in said k.0 k.1)) (t, o) ks
      (λ k. there_if (has_line m k.0 k.1)) ahead)

  pub add_row : (after : List Line) (r : RowLine) (cs : List Count) (ks : List RowKey) (ds ss : List ℕ) (sl : List SlotImage)
      (sg : List SignatureImage) (ns : List NameLine) → r.table ≤ 0x2c → IsRowOf m r
      → row_line m r.table r.old ≡ Some r.new → cross_line m r.table r.old ≡ None → has_gone_line m r.table r.old ≡ false
      → AllByRecursion (λ y. nat_cmp r.table y ≡ Less) (map (λ (c : Count). c.table) cs)
      → Got m texts (Row r.table r.old r.new ∷ after) cs ((r.table, r.old) ∷ ks) ds ss sl sg ns NoMethods → Got m texts after cs ks ds ss sl sg ns NoMethods
  add_row after r cs ks ds ss sl sg ns known is row crossed gone below g =
      let t = r.table in
      let o = r.old in
      let new = fresh t o ks g.said g.images in
      let none = none_ahead (λ (c : Count). c.table) (λ (c : Count). c.rows) nat_eq nat_cmp same_number nat_cmp_total t cs below in
      let there = before (λ (c : Count). c.table) (λ (c : Count). c.rows) nat_eq nat_cmp same_number nat_cmp_total (λ t. count_in g.said t) cs
      (λ t. count_of m t) g.counts t is.2 none in
      let not = unsaid g.said t o new in
      let kept : t ≡ 0x06 → drop_in g.said o ≡ true → ⊥ =
      λ six dropped. false≢true (sym (not_before_of (λ n. drop_in g.said n) ds (λ n. is_dropped m n) g.drops o (is.3 six)) ∙ dropped) in
      let next = read_on version g.prefix texts g.said after (Row t o r.new) g.read g.plain g.whole
      (row_told version (from_three m) t o r.new known is.0.0 is.0.1 is.1.0 is.1.1) (row_keeps g.said t o r.new new there kept) in
      let adds = row_adds g.said t o r.new in
      let this : SameImage m (Row t o r.new ∷ g.said) t o = (
        ap (λ b. cond b (Some r.new) (row_in g.said t o)) (same_itself t o) ∙ sym row,
        not.crossed ∙ sym crossed,
        not.gone ∙ sym gone,
      ) in
      record {
        said = Row t o r.new ∷ g.said;
        prefix = g.prefix ++ line_text (Row t o r.new) ∷ [];
        read = next.0;
        plain = next.1;
        whole = next.2;
        counts = g.counts;
        images = images_step m g.said (Row t o r.new) t o ks adds g.images;
        same = same_step m g.said (Row t o r.new) t o adds this g.same;
        drops = g.drops;
        slotted = g.slotted;
        slots = g.slots;
        signatures = g.signatures;
        documents = g.documents;
        link = g.link;
        shares = g.shares;
        rest = g.rest;
      }

  pub add_cross : (after : List Line) (line : CrossLine) (cs : List Count) (ks : List RowKey) (ds ss : List ℕ) (sl : List SlotImage)
      (sg : List SignatureImage) (ns : List NameLine) → IsCrossOf m line → 4 ≤ version_of m
      → row_line m line.table line.old ≡ None → cross_line m line.table line.old ≡ Some line → has_gone_line m line.table line.old ≡ false
      → AllByRecursion (λ y. nat_cmp line.table y ≡ Less) (map (λ (c : Count). c.table) cs)
      → Got m texts (Cross line ∷ after) cs ((line.table, line.old) ∷ ks) ds ss sl sg ns NoMethods → Got m texts after cs ks ds ss sl sg ns NoMethods
  add_cross after line cs ks ds ss sl sg ns is newer row crossed gone below g =
      let t = line.table in
      let o = line.old in
      let new = fresh t o ks g.said g.images in
      let none = none_ahead (λ (c : Count). c.table) (λ (c : Count). c.rows) nat_eq nat_cmp same_number nat_cmp_total t cs below in
      let there = before (λ (c : Count). c.table) (λ (c : Count). c.rows) nat_eq nat_cmp same_number nat_cmp_total (λ t. count_in g.said t) cs
      (λ t. count_of m t) g.counts t is.3 none in
      let not = unsaid g.said t o new in
      let next = read_on version g.prefix texts g.said after (Cross line) g.read g.plain g.whole
      (cross_told version newer line is.2 is.0.0 is.0.1 is.1.0 is.1.1) (cross_keeps g.said line new there) in
      let adds = cross_adds g.said line in
      let this : SameImage m (Cross line ∷ g.said) t o = (
        not.row ∙ sym row,
        ap (λ b. cond b (Some line) (cross_in g.said t o)) (same_itself t o) ∙ sym crossed,
        not.gone ∙ sym gone,
      ) in
      record {
        said = Cross line ∷ g.said;
        prefix = g.prefix ++ line_text (Cross line) ∷ [];
        read = next.0;
        plain = next.1;
        whole = next.2;
        counts = g.counts;
        images = images_step m g.said (Cross line) t o ks adds g.images;
        same = same_step m g.said (Cross line) t o adds this g.same;
        drops = g.drops;
        slotted = g.slotted;
        slots = g.slots;
        signatures = g.signatures;
        documents = g.documents;
        link = g.link;
        shares = g.shares;
        rest = g.rest;
      }

  pub add_gone : (after : List Line) (line : GoneLine) (cs : List Count) (ks : List RowKey) (ds ss : List ℕ) (sl : List SlotImage)
      (sg : List SignatureImage) (ns : List NameLine) → line.table ≤ 0x2c → IsGoneOf m line
      → 4 ≤ version_of m
      → row_line m line.table line.old ≡ None → cross_line m line.table line.old ≡ None → has_gone_line m line.table line.old ≡ true
      → AllByRecursion (λ y. nat_cmp line.table y ≡ Less) (map (λ (c : Count). c.table) cs)
      → Got m texts (Gone line.table line.old ∷ after) cs ((line.table, line.old) ∷ ks) ds ss sl sg ns NoMethods
      → Got m texts after cs ks ds ss sl sg ns NoMethods
  add_gone after line cs ks ds ss sl sg ns known is newer row crossed gone below g =
      let t = line.table in
      let o = line.old in
      let new = fresh t o ks g.said g.images in
      let none = none_ahead (λ (c : Count). c.table) (λ (c : Count). c.rows) nat_eq nat_cmp same_number nat_cmp_total t cs below in
      let there = before (λ (c : Count). c.table) (λ (c : Count). c.rows) nat_eq nat_cmp same_number nat_cmp_total (λ t. count_in g.said t) cs
      (λ t. count_of m t) g.counts t is.2 none in
      let not = unsaid g.said t o new in
      let next = read_on version g.prefix texts g.said after (Gone t o) g.read g.plain g.whole
      (gone_told version newer t o known is.1 is.0.0 is.0.1) (gone_keeps g.said t o new there) in
      let adds = gone_adds g.said t o in
      let this : SameImage m (Gone t o ∷ g.said) t o = (
        not.row ∙ sym row,
        not.crossed ∙ sym crossed,
        ap (λ b. cond b true (gone_in g.said t o)) (same_itself t o) ∙ sym gone,
      ) in
      record {
        said = Gone t o ∷ g.said;
        prefix = g.prefix ++ line_text (Gone t o) ∷ [];
        read = next.0;
        plain = next.1;
        whole = next.2;
        counts = g.counts;
        images = images_step m g.said (Gone t o) t o ks adds g.images;
        same = same_step m g.said (Gone t o) t o adds this g.same;
        drops = g.drops;
        slotted = g.slotted;
        slots = g.slots;
        signatures = g.signatures;
        documents = g.documents;
        link = g.link;
        shares = g.shares;
        rest = g.rest;
      }

  pub add_drop : (after : List Line) (d : ℕ) (cs : List Count) (ks : List RowKey) (ds ss : List ℕ) (sl : List SlotImage)
      (sg : List SignatureImage) (ns : List NameLine) → IsRow d
      → has_line m 0x06 d ≡ false → has_slots m d ≡ false → is_some (signature_line m d) ≡ false
      → Got m texts (Dropped d ∷ after) cs ks (d ∷ ds) ss sl sg ns NoMethods
      → Got m texts after cs ks ds ss sl sg ns NoMethods
  add_drop after d cs ks ds ss sl sg ns is unmoved unslotted unsigned g =
      let new = not_yet_of (λ n. drop_in g.said n) d ds (λ n. is_dropped m n) g.drops in
      let row = not_there (has_image_in g.said 0x06 d) (not_before key_of no_value same_pair pair_cmp pair_is pair_total
      (λ k. there_if (has_image_in g.said k.0 k.1)) ks (λ k. there_if (has_line m k.0 k.1)) g.images (0x06, d) (ap (λ b. is_some (there_if b)) unmoved)) in
      let slots = not_before_of (λ n. slots_in g.said n) ss (λ n. has_slots m n) g.slotted d unslotted in
      let signature = not_before (λ (s : SignatureImage). s.method) (λ (s : SignatureImage). s.new) nat_eq nat_cmp same_number nat_cmp_total
      (λ n. signature_in g.said n) sg (λ n. signature_line m n) g.signatures d unsigned in
      let method : is_some (method_in g.said d) ≡ false =
      ap (λ (lines : List MethodLine). is_some (find (λ (l : MethodLine). nat_eq l.method d) lines)) g.rest in
      let next = read_on version g.prefix texts g.said after (Dropped d) g.read g.plain g.whole (drop_told version (from_three m) d is.0 is.1)
      (drop_keeps g.said d new method row slots signature) in
      record {
        said = Dropped d ∷ g.said;
        prefix = g.prefix ++ line_text (Dropped d) ∷ [];
        read = next.0;
        plain = next.1;
        whole = next.2;
        counts = g.counts;
        images = g.images;
        same = g.same;
        drops = steps_of (λ n. drop_in g.said n) d ds (λ n. is_dropped m n) g.drops;
        slotted = g.slotted;
        slots = g.slots;
        signatures = g.signatures;
        documents = g.documents;
        link = g.link;
        shares = g.shares;
        rest = g.rest;
      }

  pub add_slots : (after : List Line) (s : ℕ) (cs : List Count) (ks : List RowKey) (ds ss : List ℕ) (sl : List SlotImage)
      (sg : List SignatureImage) (ns : List NameLine) → IsSlottedOf m s
      → Got m texts (Slots s ∷ after) cs ks ds (s ∷ ss) sl sg ns NoMethods → Got m texts after cs ks ds ss sl sg ns NoMethods
  add_slots after s cs ks ds ss sl sg ns is g =
      let new = not_yet_of (λ n. slots_in g.said n) s ss (λ n. has_slots m n) g.slotted in
      let drop = not_before_of (λ n. drop_in g.said n) ds (λ n. is_dropped m n) g.drops s is.1 in
      let next = read_on version g.prefix texts g.said after (Slots s) g.read g.plain g.whole
      (slots_told version (from_three m) s is.0.0 is.0.1) (slots_keep g.said s new drop) in
      record {
        said = Slots s ∷ g.said;
        prefix = g.prefix ++ line_text (Slots s) ∷ [];
        read = next.0;
        plain = next.1;
        whole = next.2;
        counts = g.counts;
        images = g.images;
        same = g.same;
        drops = g.drops;
        slotted = steps_of (λ n. slots_in g.said n) s ss (λ n. has_slots m n) g.slotted;
        slots = g.slots;
        signatures = g.signatures;
        documents = g.documents;
        link = g.link;
        shares = g.shares;
        rest = g.rest;
      }

  pub add_slot : (after : List Line) (s : SlotImage) (cs : List Count) (ks : List RowKey) (ds ss : List ℕ) (sl : List SlotImage)
      (sg : List SignatureImage) (ns : List NameLine) → IsRow s.method
      → IsSlotOf m s → AllByRecursion (λ y. nat_cmp s.method y ≡ Less) ss → Got m texts (slot_says s ∷ after) cs ks ds ss (s ∷ sl) sg ns NoMethods
      → Got m texts after cs ks ds ss sl sg ns NoMethods
  add_slot after s cs ks ds ss sl sg ns known is below g =
      let key : SlotImage → ℕ × ℕ = λ s. (s.method, s.old) in
      let new = not_yet key (λ (s : SlotImage). s.new) same_pair pair_cmp pair_is pair_total (λ k. slot_in g.said k.0 k.1) s sl
      (λ k. slot_line m k.0 k.1) g.slots in
      let there = before_of (λ n. slots_in g.said n) ss (λ n. has_slots m n) g.slotted s.method is.2 (none_of_them s.method ss below) in
      let next = read_on version g.prefix texts g.said after (slot_says s) g.read g.plain g.whole
      (slot_told version (from_three m) s.method s.old s.new known.0 known.1 is.0 is.1)
      (slot_keeps g.said s.method s.old s.new new there) in
      record {
        said = slot_says s ∷ g.said;
        prefix = g.prefix ++ line_text (slot_says s) ∷ [];
        read = next.0;
        plain = next.1;
        whole = next.2;
        counts = g.counts;
        images = g.images;
        same = g.same;
        drops = g.drops;
        slotted = g.slotted;
        slots = steps key (λ (s : SlotImage). s.new) same_pair pair_cmp pair_is pair_total (λ k. slot_in g.said k.0 k.1) s sl
            (λ k. slot_line m k.0 k.1) g.slots;
        signatures = g.signatures;
        documents = g.documents;
        link = g.link;
        shares = g.shares;
        rest = g.rest;
      }

  pub add_signature : (after : List Line) (s : SignatureImage) (cs : List Count) (ks : List RowKey) (ds ss : List ℕ) (sl : List SlotImage)
      (sg : List SignatureImage) (ns : List NameLine) → IsSignatureOf m s → 4 ≤ version_of m → Got m texts (signature_says s ∷ after) cs ks ds ss sl (s ∷ sg) ns NoMethods
      → Got m texts after cs ks ds ss sl sg ns NoMethods
  add_signature after s cs ks ds ss sl sg ns is newer g =
      let new = not_yet (λ (s : SignatureImage). s.method) (λ (s : SignatureImage). s.new) nat_eq nat_cmp same_number nat_cmp_total
      (λ n. signature_in g.said n) s sg (λ n. signature_line m n) g.signatures in
      let drop = not_before_of (λ n. drop_in g.said n) ds (λ n. is_dropped m n) g.drops s.method is.2 in
      let next = read_on version g.prefix texts g.said after (signature_says s) g.read g.plain g.whole
      (signature_told version newer s.method s.new is.0.0 is.0.1 is.1) (signature_keeps g.said s.method s.new new drop) in
      record {
        said = signature_says s ∷ g.said;
        prefix = g.prefix ++ line_text (signature_says s) ∷ [];
        read = next.0;
        plain = next.1;
        whole = next.2;
        counts = g.counts;
        images = g.images;
        same = g.same;
        drops = g.drops;
        slotted = g.slotted;
        slots = g.slots;
        signatures = steps (λ (s : SignatureImage). s.method) (λ (s : SignatureImage). s.new) nat_eq nat_cmp same_number nat_cmp_total
            (λ n. signature_in g.said n) s sg (λ n. signature_line m n) g.signatures;
        documents = g.documents;
        link = g.link;
        shares = g.shares;
        rest = g.rest;
      }

  pub add_document : (after : List Line) (d : NameLine) (cs : List Count) (ks : List RowKey) (ds ss : List ℕ) (sl : List SlotImage)
      (sg : List SignatureImage) (ns : List NameLine) → AreNames d → 4 ≤ version_of m → Got m texts (Document d ∷ after) cs ks ds ss sl sg (d ∷ ns) NoMethods
      → Got m texts after cs ks ds ss sl sg ns NoMethods
  add_document after d cs ks ds ss sl sg ns is newer g =
      let new = not_yet (λ (d : NameLine). d.old) (λ (d : NameLine). d.new) bytes_eq (slice_cmp nat_cmp) same_bytes nat_list_cmp_total
      (λ n. document_in g.said n) d ns (λ n. document_line m n) g.documents in
      let next = read_on version g.prefix texts g.said after (Document d) g.read g.plain g.whole
      (document_told version newer d is.0 is.1) (document_keeps g.said d new) in
      record {
        said = Document d ∷ g.said;
        prefix = g.prefix ++ line_text (Document d) ∷ [];
        read = next.0;
        plain = next.1;
        whole = next.2;
        counts = g.counts;
        images = g.images;
        same = g.same;
        drops = g.drops;
        slotted = g.slotted;
        slots = g.slots;
        signatures = g.signatures;
        documents = steps (λ (d : NameLine). d.old) (λ (d : NameLine). d.new) bytes_eq (slice_cmp nat_cmp) same_bytes nat_list_cmp_total
            (λ n. document_in g.said n) d ns (λ n. document_line m n) g.documents;
        link = g.link;
        shares = g.shares;
        rest = g.rest;
      }
