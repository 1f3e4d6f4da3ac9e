-- The canonical text of a readable map is read as this map.
use Rattle.std.proofs.Common.{ℕ, ◌≡◌, ◌≤◌, ◌++◌, Bool, true, false, List, [], ◌∷◌, Option, Some, None, refl, sym, ap, ◌∙◌, subst, arith, map, inl, inr}
use Rattle.std.specs.{Prelude.{nat_eq, bytes_eq, is_some, IfSome}, Cmp.Lexicographic.{slice_cmp, nat_list_cmp_total}, List.{AllByRecursion, find, flat_map}}
use Rattle.std.specs.{List.{list_any}, List.Sorted.{IsStrictlySortedBy}, Option.{option_map}, Ordering.{nat_cmp}, declared.cmp.Ordering.TheVariants.{Less}}
use Rattle.std.proofs.lemmas.{Bool.{false≢true, eqb-true}, Cmp.{nat_cmp_total}, List.{append_assoc, append-nil}}
use Rattle.ppdb_maps.specs.declared.entries.{Count.{Count}, SlotImage.{SlotImage}, SignatureImage.{SignatureImage}, NameLine.{NameLine}}
use Rattle.ppdb_maps.specs.{declared.line.Line.{Line}, declared.line.Line.TheVariants.{Rows, Dropped, Slots, Document, Link, Shares}, Before.{drop_in, shares_in}}
use Rattle.ppdb_maps.specs.{Before.{link_in}, Gathered.{same_pair}, Map.{Map, MethodLine, pair_cmp, count_of, line_image, is_dropped, has_slots, slot_line}}
use Rattle.ppdb_maps.specs.{Map.{signature_line, document_line, slots_of}, Readable.{IsReadable, IsCount, IsRow, IsSlottedOf, IsSlotOf, IsSignatureOf, AreNames}}
use Rattle.ppdb_maps.specs.{Forms.{AreBytes, IsHead}, Rules.{Breaks, second_shares}, declared.rule.Rule.{Rule}, Text.{Read, HoldsWhat, start}}
use Rattle.ppdb_maps.proofs.{Named.{same_bytes}, Refusing.{link_keeps}, OneMap.{same_number, pair_is, pair_total}}
use Rattle.ppdb_maps_text.specs.{Laws.{TextsAreRead}, MapTexts.{version_of, head_text, line_text, image_says, olds_of, count_says, slots_say, method_says, map_says}}
use Rattle.ppdb_maps_text.proofs.{Ahead.{ahead_same, ahead_of_same, starts, ends, starts_of, ends_of, one_of}, Got.{Got, NoMethods, RowKey, key_of, no_value}}
use Rattle.ppdb_maps_text.proofs.Got.{there_if, SameImage, add_count, add_row, add_cross, add_gone, add_drop, add_slots, add_slot, add_signature, add_document}
use Rattle.ppdb_maps_text.proofs.Got.{read_on, from_three, version_known, shares_newer, crossed_newer, gone_newer, signatures_newer, documents_newer, link_newer}
use Rattle.ppdb_maps_text.proofs.{Told.{link_told, shares_told}, OneLine.{has_line, OneLine, by_row, by_cross, by_gone, one_line, methods_stay, says_row}}
use Rattle.ppdb_maps_text.proofs.{OneLine.{says_cross, says_gone}, Starting.{keys_of, olds_lined, images_start, same_read, Silent, none_silent, shares_silent}}
use Rattle.ppdb_maps_text.proofs.{Starting.{link_silent}, Groups.{regrouped, of_found, of_any, of_passed, of_each}, Methods.{MethodsAhead, LinesAhead, line_among}}
use Rattle.ppdb_maps_text.proofs.{Methods.{add_methods}, Words.{IsPlain, lines_ended}, Parts.{slot_says, signature_says, link_says, shares_says}}

-- what stands at the start is below what is ahead
first_below : (c : Count) (cs : List Count) → IsStrictlySortedBy nat_cmp (map (λ (c : Count). c.table) (c ∷ cs))
    → AllByRecursion (λ y. nat_cmp c.table y ≡ Less) (map (λ (c : Count). c.table) cs)
unfolding IsStrictlySortedBy
first_below c cs sorted = sorted.0

number_below : (s : ℕ) (ss : List ℕ) → IsStrictlySortedBy nat_cmp (s ∷ ss) → AllByRecursion (λ y. nat_cmp s y ≡ Less) ss
unfolding IsStrictlySortedBy
number_below s ss sorted = sorted.0

map_itself : (xs : List ℕ) → map (λ (x : ℕ). x) xs ≡ xs
map_itself [] = refl
map_itself (x ∷ xs) = ap (λ l. x ∷ l) (map_itself xs)

-- no row of a dropped method has a line
dropped_unmoved : (m : Map) → IsReadable m → (d : ℕ) → is_dropped m d ≡ true → has_line m 0x06 d ≡ false
dropped_unmoved m is d dropped = of (has_line m 0x06 d) refl
  where
    none : (t o : ℕ) → OneLine m t o → t ≡ 0x06 → is_dropped m o ≡ true → ⊥
    none _ _ (by_row line of row crossed gone) six dropped = false≢true (sym (of.3 six) ∙ dropped)
    none _ _ (by_cross line of some row crossed gone) six dropped = methods_stay line of.2 six
    none _ _ (by_gone line of some row crossed gone) six dropped = of.1 six

    of : (b : Bool) → has_line m 0x06 d ≡ b → b ≡ false
    of false e = refl
    of true e = absurd (none 0x06 d (one_line m is 0x06 d e) refl dropped)

-- nor slots
dropped_unslotted : (m : Map) → IsReadable m → (d : ℕ) → is_dropped m d ≡ true → has_slots m d ≡ false
dropped_unslotted m is d dropped = of (has_slots m d) refl
  where
    of : (b : Bool) → has_slots m d ≡ b → b ≡ false
    of false e = refl
    of true e = let h : IsSlottedOf m d = of_any (IsSlottedOf m) d m.slotted is.slotted e in absurd (false≢true (sym h.1 ∙ dropped))

-- nor a `signature` line
dropped_unsigned : (m : Map) → IsReadable m → (d : ℕ) → is_dropped m d ≡ true → is_some (signature_line m d) ≡ false
dropped_unsigned m is d dropped = of (find (λ (s : SignatureImage). nat_eq s.method d) m.signatures) refl
  where
    of : (o : Option SignatureImage) → find (λ (s : SignatureImage). nat_eq s.method d) m.signatures ≡ o
        → is_some (option_map (λ (s : SignatureImage). s.new) o) ≡ false
    of None e = refl
    of (Some s) e =
        let h = of_found (IsSignatureOf m) (λ (s : SignatureImage). nat_eq s.method d) m.signatures s is.signatures e in
        absurd (false≢true (sym (subst (λ n. is_dropped m n ≡ false) (eqb-true s.method d h.1) h.0.2) ∙ dropped))

module _ (m : Map) (texts : List (List ℕ)) (is : IsReadable m) where
  -- the line of a row
  add_image : (after : List Line) (t o : ℕ) (cs : List Count) (ks : List RowKey) (ds ss : List ℕ) (sl : List SlotImage) → OneLine m t o → t ≤ 0x2c
      → AllByRecursion (λ y. nat_cmp t y ≡ Less) (map (λ (c : Count). c.table) cs)
      → Got m texts (image_says t o (line_image m t o) ++ after) cs ((t, o) ∷ ks) ds ss sl m.signatures m.documents NoMethods
      → Got m texts after cs ks ds ss sl m.signatures m.documents NoMethods
  add_image after _ _ cs ks ds ss sl (by_row line of row crossed gone) known below g =
      add_row m texts after line cs ks ds ss sl m.signatures m.documents known of row crossed gone below
      (subst (λ ls. Got m texts (ls ++ after) cs ((line.table, line.old) ∷ ks) ds ss sl m.signatures m.documents NoMethods)
      (says_row m line.table line.old line.new row) g)
  add_image after _ _ cs ks ds ss sl (by_cross line of some row crossed gone) known below g =
      add_cross m texts after line cs ks ds ss sl m.signatures m.documents of (crossed_newer m some) row crossed gone below
      (subst (λ ls. Got m texts (ls ++ after) cs ((line.table, line.old) ∷ ks) ds ss sl m.signatures m.documents NoMethods)
      (says_cross m line of.2 row crossed) g)
  add_image after _ _ cs ks ds ss sl (by_gone line of some row crossed gone) known below g =
      add_gone m texts after line cs ks ds ss sl m.signatures m.documents known of (gone_newer m some) row crossed gone below
      (subst (λ ls. Got m texts (ls ++ after) cs ((line.table, line.old) ∷ ks) ds ss sl m.signatures m.documents NoMethods)
      (says_gone m line.table line.old row crossed gone) g)

  -- the lines of the rows of a table
  add_olds : (after : List Line) (t : ℕ) (olds : List ℕ) (ks : List RowKey) (cs : List Count) (ds ss : List ℕ) (sl : List SlotImage) → t ≤ 0x2c
      → AllByRecursion (λ o. has_line m t o ≡ true) olds
      → AllByRecursion (λ y. nat_cmp t y ≡ Less) (map (λ (c : Count). c.table) cs)
      → Got m texts (flat_map (λ o. image_says t o (line_image m t o)) olds ++ after) cs (map (λ o. (t, o)) olds ++ ks) ds ss sl m.signatures m.documents
      NoMethods
      → Got m texts after cs ks ds ss sl m.signatures m.documents NoMethods
  add_olds after t [] ks cs ds ss sl known all below g = g
  add_olds after t (o ∷ olds) ks cs ds ss sl known all below g =
      add_olds after t olds ks cs ds ss sl known all.1 below
      (add_image (flat_map (λ o. image_says t o (line_image m t o)) olds ++ after) t o cs (map (λ o. (t, o)) olds ++ ks) ds ss sl
      (one_line m is t o all.0) known below
      (subst (λ a. Got m texts a cs ((t, o) ∷ (map (λ o. (t, o)) olds ++ ks)) ds ss sl m.signatures m.documents NoMethods)
      (append_assoc (image_says t o (line_image m t o)) (flat_map (λ o. image_says t o (line_image m t o)) olds) after) g))

  add_counts : (after : List Line) (cs : List Count) (ds ss : List ℕ) (sl : List SlotImage) → AllByRecursion IsCount cs
      → Got m texts (flat_map (count_says m) cs ++ after) cs (flat_map (keys_of m) cs) ds ss sl m.signatures m.documents NoMethods
      → Got m texts after [] [] ds ss sl m.signatures m.documents NoMethods
  add_counts after [] ds ss sl all g = g
  add_counts after (c ∷ cs) ds ss sl all g =
      let rest : List RowKey = flat_map (keys_of m) cs in
      let below = first_below c cs g.counts.sorted in
      let lines : List Line = flat_map (λ o. image_says c.table o (line_image m c.table o)) (olds_of m c.table) in
      let regot : Got m texts (Rows c.table c.rows ∷ (lines ++ (flat_map (count_says m) cs ++ after))) (c ∷ cs)
      (keys_of m c ++ rest) ds ss sl m.signatures m.documents NoMethods =
      subst (λ a. Got m texts a (c ∷ cs) (keys_of m c ++ rest) ds ss sl m.signatures m.documents NoMethods)
      (append_assoc (count_says m c) (flat_map (count_says m) cs) after) g in
      add_counts after cs ds ss sl all.1
      (add_olds (flat_map (count_says m) cs ++ after) c.table (olds_of m c.table) rest cs ds ss sl all.0.0 (olds_lined m c.table) below
      (add_count m texts (lines ++ (flat_map (count_says m) cs ++ after)) c cs (keys_of m c ++ rest) ds ss sl
      m.signatures m.documents all.0 regot))

  add_drops : (after : List Line) (ds ss : List ℕ) (sl : List SlotImage) → AllByRecursion IsRow ds
      → Got m texts (map Dropped ds ++ after) [] [] ds ss sl m.signatures m.documents NoMethods → Got m texts after [] [] [] ss sl m.signatures m.documents NoMethods
  add_drops after [] ss sl all g = g
  add_drops after (d ∷ ds) ss sl all g =
      let dropped = one_of (λ n. drop_in g.said n) d ds (λ n. is_dropped m n) g.drops in
      add_drops after ds ss sl all.1
      (add_drop m texts (map Dropped ds ++ after) d [] [] ds ss sl m.signatures m.documents all.0 (dropped_unmoved m is d dropped) (dropped_unslotted m is d dropped)
      (dropped_unsigned m is d dropped) g)

  add_slot_lines : (after : List Line) (n : ℕ) (slots sl : List SlotImage) (ss : List ℕ) → IsRow n
      → AllByRecursion (λ (s : SlotImage). IsSlotOf m s × (nat_eq s.method n ≡ true)) slots → AllByRecursion (λ y. nat_cmp n y ≡ Less) ss
      → Got m texts (map slot_says slots ++ after) [] [] [] ss (slots ++ sl) m.signatures m.documents NoMethods
      → Got m texts after [] [] [] ss sl m.signatures m.documents NoMethods
  add_slot_lines after n [] sl ss known all below g = g
  add_slot_lines after n (s ∷ slots) sl ss known all below g =
      let e : n ≡ s.method = sym (eqb-true s.method n all.0.1) in
      add_slot_lines after n slots sl ss known all.1 below
      (add_slot m texts (map slot_says slots ++ after) s [] [] [] ss (slots ++ sl) m.signatures m.documents (subst IsRow e known) all.0.0
      (subst (λ k. AllByRecursion (λ y. nat_cmp k y ≡ Less) ss) e below) g)

  add_slotted : (after : List Line) (ss : List ℕ) → AllByRecursion (IsSlottedOf m) ss
      → Got m texts (flat_map (slots_say m) ss ++ after) [] [] [] ss (flat_map (slots_of m) ss) m.signatures m.documents NoMethods
      → Got m texts after [] [] [] [] [] m.signatures m.documents NoMethods
  add_slotted after [] all g = g
  add_slotted after (s ∷ ss) all g =
      let rest : List SlotImage = flat_map (slots_of m) ss in
      let below = number_below s ss g.slotted.sorted in
      let regot : Got m texts (Slots s ∷ (map slot_says (slots_of m s) ++ (flat_map (slots_say m) ss ++ after))) [] [] [] (s ∷ ss)
      (slots_of m s ++ rest) m.signatures m.documents NoMethods =
      subst (λ a. Got m texts a [] [] [] (s ∷ ss) (slots_of m s ++ rest) m.signatures m.documents NoMethods)
      (append_assoc (slots_say m s) (flat_map (slots_say m) ss) after) g in
      add_slotted after ss all.1
      (add_slot_lines (flat_map (slots_say m) ss ++ after) s (slots_of m s) rest ss all.0.0
      (of_passed (IsSlotOf m) (λ (x : SlotImage). nat_eq x.method s) m.slots is.slots) below
      (add_slots m texts (map slot_says (slots_of m s) ++ (flat_map (slots_say m) ss ++ after)) s [] [] [] ss (slots_of m s ++ rest) m.signatures m.documents all.0
      regot))

  add_signatures : (after : List Line) (sg : List SignatureImage) → AllByRecursion (λ s. IsSignatureOf m s × (4 ≤ version_of m)) sg
      → Got m texts (map signature_says sg ++ after) [] [] [] [] [] sg m.documents NoMethods → Got m texts after [] [] [] [] [] [] m.documents NoMethods
  add_signatures after [] all g = g
  add_signatures after (s ∷ sg) all g =
      add_signatures after sg all.1 (add_signature m texts (map signature_says sg ++ after) s [] [] [] [] [] sg m.documents all.0.0 all.0.1 g)

  add_documents : (after : List Line) (ns : List NameLine) → AllByRecursion (λ d. AreNames d × (4 ≤ version_of m)) ns
      → Got m texts (map Document ns ++ after) [] [] [] [] [] [] ns NoMethods → Got m texts after [] [] [] [] [] [] [] NoMethods
  add_documents after [] all g = g
  add_documents after (d ∷ ns) all g =
      add_documents after ns all.1 (add_document m texts (map Document ns ++ after) d [] [] [] [] [] [] ns all.0.0 all.0.1 g)

  begin_methods : (after : List Line) → Got m texts after [] [] [] [] [] [] [] NoMethods → Got m texts after [] [] [] [] [] [] [] (MethodsAhead m m.methods)
  begin_methods after g = record {
    said = g.said;
    prefix = g.prefix;
    read = g.read;
    plain = g.plain;
    whole = g.whole;
    counts = g.counts;
    images = g.images;
    same = g.same;
    drops = g.drops;
    slotted = g.slotted;
    slots = g.slots;
    signatures = g.signatures;
    documents = g.documents;
    link = g.link;
    shares = g.shares;
    rest = subst (λ lines. LinesAhead m lines m.methods) (sym g.rest)
        (starts (λ (l : MethodLine). l.method) (λ (l : MethodLine). l) nat_eq nat_cmp same_number nat_cmp_total m.methods is.ascends.methods);
  }

-- what a text says after its first lines, of which each stands alone
abbrev tables_say : Map → List Line
tables_say m =
    flat_map (count_says m) m.counts
    ++ (map Dropped m.drops
    ++ (flat_map (slots_say m) m.slotted ++ (map signature_says m.signatures ++ (map Document m.documents ++ flat_map method_says m.methods))))

-- these lines were read, and they say nothing of what is ahead
record FirstRead (m : Map) (after : List Line) (shares : Bool) (link : Option (List ℕ)) : Type 0 where
  pub said : List Line
  pub prefix : List (List ℕ)
  pub read : Read (version_of m) prefix said
  pub plain : AllByRecursion IsPlain prefix
  pub whole : prefix ++ map line_text after ≡ map line_text (map_says m)
  pub shares_are : shares_in said ≡ shares
  pub link_is : link_in said ≡ link
  pub silent : Silent said

shares_read : (m : Map) → FirstRead m (link_says m.link ++ tables_say m) m.shares None
shares_read m = of m.shares refl
  where
    shares_keep : (rule : Rule) → Breaks [] rule Shares → ⊥
    shares_keep rule (second_shares h) = false≢true h

    of : (b : Bool) → m.shares ≡ b → FirstRead m (link_says m.link ++ tables_say m) b None
    of false e = record {
      said = [];
      prefix = [];
      read = start;
      plain = tt;
      whole = ap (λ b. map line_text (shares_says b ++ (link_says m.link ++ tables_say m))) (sym e);
      shares_are = refl;
      link_is = refl;
      silent = none_silent;
    }
    of true e =
        let next = read_on (version_of m) [] (map line_text (map_says m)) [] (link_says m.link ++ tables_say m) Shares start tt
        (ap (λ b. map line_text (shares_says b ++ (link_says m.link ++ tables_say m))) (sym e)) (shares_told (version_of m) (shares_newer m e))
        shares_keep in
        record {
          said = Shares ∷ [];
          prefix = line_text Shares ∷ [];
          read = next.0;
          plain = next.1;
          whole = next.2;
          shares_are = refl;
          link_is = refl;
          silent = shares_silent [] none_silent;
        }

first_read : (m : Map) → IsReadable m → FirstRead m (tables_say m) m.shares m.link
first_read m is = of m.link refl is.link
  where
    before : FirstRead m (link_says m.link ++ tables_say m) m.shares None
    before = shares_read m

    of : (o : Option (List ℕ)) → m.link ≡ o → IfSome o AreBytes → FirstRead m (tables_say m) m.shares o
    of None e all = record {
      said = before.said;
      prefix = before.prefix;
      read = before.read;
      plain = before.plain;
      whole = ap (λ l. before.prefix ++ map line_text (link_says l ++ tables_say m)) (sym e) ∙ before.whole;
      shares_are = before.shares_are;
      link_is = before.link_is;
      silent = before.silent;
    }
    of (Some value) e all =
        let next = read_on (version_of m) before.prefix (map line_text (map_says m)) before.said (tables_say m) (Link value) before.read before.plain
        (ap (λ l. before.prefix ++ map line_text (link_says l ++ tables_say m)) (sym e) ∙ before.whole)
        (link_told (version_of m) (link_newer m value e) value all) (link_keeps before.said value (ap is_some before.link_is)) in
        record {
          said = Link value ∷ before.said;
          prefix = before.prefix ++ line_text (Link value) ∷ [];
          read = next.0;
          plain = next.1;
          whole = next.2;
          shares_are = before.shares_are;
          link_is = refl;
          silent = link_silent before.said value before.silent;
        }

-- only the `shares` and the `link` line are read yet, if they are there
nothing_read : (m : Map) → IsReadable m
    → Got m (map line_text (map_says m)) (tables_say m) m.counts (flat_map (keys_of m) m.counts) m.drops m.slotted m.slots m.signatures m.documents NoMethods
nothing_read m is =
    let first = first_read m is in
    let silent = first.silent in
    record {
      said = first.said;
      prefix = first.prefix;
      read = first.read;
      plain = first.plain;
      whole = first.whole;
      counts = ahead_same (λ (c : Count). c.table) (λ (c : Count). c.rows) nat_eq nat_cmp _ _ m.counts (λ t. count_of m t) (λ t. sym (silent.counts t))
          (starts (λ (c : Count). c.table) (λ (c : Count). c.rows) nat_eq nat_cmp same_number nat_cmp_total m.counts is.ascends.counts);
      images = ahead_same key_of no_value same_pair pair_cmp _ _ (flat_map (keys_of m) m.counts) (λ k. there_if (has_line m k.0 k.1))
          (λ k. sym (ap there_if (silent.images k.0 k.1))) (images_start m is);
      same = λ t o there. absurd (false≢true (sym (silent.images t o) ∙ there));
      drops = ahead_of_same _ _ m.drops (λ n. is_dropped m n) (λ n. sym (silent.drops n)) (starts_of m.drops is.ascends.drops);
      slotted = ahead_of_same _ _ m.slotted (λ n. has_slots m n) (λ n. sym (silent.slotted n)) (starts_of m.slotted is.ascends.slotted);
      slots = ahead_same (λ (s : SlotImage). (s.method, s.old)) (λ (s : SlotImage). s.new) same_pair pair_cmp _ _ m.slots (λ k. slot_line m k.0 k.1)
          (λ k. sym (silent.slots k.0 k.1))
          (starts (λ (s : SlotImage). (s.method, s.old)) (λ (s : SlotImage). s.new) same_pair pair_cmp pair_is pair_total m.slots is.ascends.slots);
      signatures = ahead_same (λ (s : SignatureImage). s.method) (λ (s : SignatureImage). s.new) nat_eq nat_cmp _ _ m.signatures (λ n. signature_line m n)
          (λ n. sym (silent.signatures n))
          (starts (λ (s : SignatureImage). s.method) (λ (s : SignatureImage). s.new) nat_eq nat_cmp same_number nat_cmp_total m.signatures
          is.ascends.signatures);
      documents = ahead_same (λ (d : NameLine). d.old) (λ (d : NameLine). d.new) bytes_eq (slice_cmp nat_cmp) _ _ m.documents (λ n. document_line m n)
          (λ n. sym (silent.documents n))
          (starts (λ (d : NameLine). d.old) (λ (d : NameLine). d.new) bytes_eq (slice_cmp nat_cmp) same_bytes nat_list_cmp_total m.documents
          is.ascends.documents);
      link = first.link_is;
      shares = first.shares_are;
      rest = silent.methods;
    }

slots_in_order : (m : Map) → IsReadable m → flat_map (slots_of m) m.slotted ≡ m.slots
slots_in_order m is =
    regrouped (λ (n : ℕ). n) (λ (s : SlotImage). s.method) (λ (s : SlotImage). s.old) m.slotted m.slots
    (subst (IsStrictlySortedBy nat_cmp) (sym (map_itself m.slotted)) is.ascends.slotted) is.ascends.slots
    (of_each (IsSlotOf m) (λ (s : SlotImage). list_any (nat_eq s.method) m.slotted ≡ true) (λ s h. h.2) m.slots is.slots)

-- what holds of each item, with what holds where there is one
each_with : {X : Type 0} (P : X → Type 0) (Q : Type 0) (all xs : List X) → all ≡ xs → ((y : X) (ys : List X) → all ≡ y ∷ ys → Q) → AllByRecursion P xs
    → AllByRecursion (λ x. P x × Q) xs
each_with P Q all [] e there holds = tt
each_with {X} P Q all (x ∷ xs) e there holds = each (x ∷ xs) (there x xs e) holds
  where
    each : (ys : List X) → Q → AllByRecursion P ys → AllByRecursion (λ x. P x × Q) ys
    each [] q holds = tt
    each (y ∷ ys) q holds = ((holds.0, q), each ys q holds.1)

-- all lines are read
all_read : (m : Map) → IsReadable m → Got m (map line_text (map_says m)) [] [] [] [] [] [] [] [] (MethodsAhead m [])
all_read m is =
    let texts : List (List ℕ) = map line_text (map_says m) in
    let methods : List Line = flat_map method_says m.methods in
    let documents : List Line = map Document m.documents ++ methods in
    let signatures : List Line = map signature_says m.signatures ++ documents in
    let slots : List Line = flat_map (slots_say m) m.slotted ++ signatures in
    let drops : List Line = map Dropped m.drops ++ slots in
    let counted = add_counts m texts is drops m.counts m.drops m.slotted m.slots is.counts (nothing_read m is) in
    let dropped = add_drops m texts is slots m.drops m.slotted m.slots is.drops counted in
    let given = subst (λ sl. Got m texts slots [] [] [] m.slotted sl m.signatures m.documents NoMethods) (sym (slots_in_order m is)) dropped in
    let slotted = add_slotted m texts is signatures m.slotted is.slotted given in
    let signed = add_signatures m texts is documents m.signatures
    (each_with (IsSignatureOf m) (4 ≤ version_of m) m.signatures m.signatures refl (signatures_newer m) is.signatures) slotted in
    let named = add_documents m texts is methods m.documents
    (each_with AreNames (4 ≤ version_of m) m.documents m.documents refl (documents_newer m) is.documents) signed in
    add_methods m texts m.methods is.methods (begin_methods m texts is methods named)

itself : (o : Option MethodLine) → option_map (λ (l : MethodLine). l) o ≡ o
itself None = refl
itself (Some l) = refl

read_holds : (m : Map) → IsReadable m → (g : Got m (map line_text (map_says m)) [] [] [] [] [] [] [] [] (MethodsAhead m [])) → HoldsWhat g.said m
read_holds m is g = record {
  counts = λ t. sym (ends (λ (c : Count). c.table) (λ (c : Count). c.rows) nat_eq nat_cmp same_number nat_cmp_total _ _ g.counts t);
  rows = λ t o. sym (images t o).0;
  crossed = λ t o. sym (images t o).1;
  gone = λ t o. sym (images t o).2;
  methods = λ n. sym (ends (λ (l : MethodLine). l.method) (λ (l : MethodLine). l) nat_eq nat_cmp same_number nat_cmp_total _ _ g.rest n
      ∙ itself (line_among m.methods n));
  drops = λ n. sym (ends_of _ _ g.drops n);
  slotted = λ n. sym (ends_of _ _ g.slotted n);
  slots = λ n o. sym (ends (λ (s : SlotImage). (s.method, s.old)) (λ (s : SlotImage). s.new) same_pair pair_cmp pair_is pair_total _ _ g.slots (n, o));
  signatures = λ n. sym (ends (λ (s : SignatureImage). s.method) (λ (s : SignatureImage). s.new) nat_eq nat_cmp same_number nat_cmp_total _ _ g.signatures n);
  documents = λ n. sym (ends (λ (d : NameLine). d.old) (λ (d : NameLine). d.new) bytes_eq (slice_cmp nat_cmp) same_bytes nat_list_cmp_total _ _ g.documents n);
  link = sym g.link;
  shares = sym g.shares;
  ascends = is.ascends;
}
  where
    images : (t o : ℕ) → SameImage m g.said t o
    images t o = same_read m g.said t o (ends key_of no_value same_pair pair_cmp pair_is pair_total _ _ g.images (t, o)) (g.same t o)

head_is_plain : (version : ℕ) → IsPlain (head_text version)
head_is_plain version =
    (omega arith, (omega arith, (omega arith, (omega arith, (omega arith, (omega arith, (omega arith, (omega arith, (omega arith, tt)))))))))

head_is : (m : Map) → IsHead (head_text (version_of m)) (version_of m)
head_is m = record {
  from = let h = from_three m in omega (arith, h);
  to = elim (version_known m) [ inl e ↦ omega (arith, e) | inr e ↦ omega (arith, e) ];
  spelled = refl;
}

pub texts_are_read : TextsAreRead
texts_are_read = λ m is.
    let g = all_read m is in
    let texts : g.prefix ≡ map line_text (map_says m) = sym (append-nil g.prefix) ∙ g.whole in
    record {
      head = head_text (version_of m);
      rest = map line_text (map_says m);
      version = version_of m;
      said = g.said;
      lines = lines_ended (head_text (version_of m) ∷ map line_text (map_says m)) (head_is_plain (version_of m), subst (AllByRecursion IsPlain) texts g.plain);
      begins = head_is m;
      read = subst (λ t. Read (version_of m) t g.said) texts g.read;
      holds_what = read_holds m is g;
    }
