-- The text of a readable map has fewer than 2 ^ 64 bytes.
use Rattle.std.proofs.Common.{ℕ, zero, suc, ◌+◌, ◌*◌, ◌<◌, ◌≤◌, ◌++◌, Bool, true, false, ◌≡◌, ◌∙◌, refl, sym, ap, subst, List, [], ◌∷◌, length, map, arith}
use Rattle.std.{proofs.Common.{length-append, Option, Some, None}, specs.Prelude.{nat_eq, codes, is_some, IfSome, if◌then◌else◌}, specs.Fmt.{decimal}}
use Rattle.std.{specs.List.{AllByRecursion, flat_map}, proofs.lemmas.List.{length-map}, proofs.lemmas.Bool.{eqb-true}}
use Rattle.ppdb_maps.specs.declared.entries.{Count.{Count}, SlotImage.{SlotImage}, SignatureImage.{SignatureImage}, NameLine.{NameLine}}
use Rattle.ppdb_maps.specs.declared.line.{Line.{Line}, Line.TheVariants.{Silent, Rows, Row, Cross, Gone, Method, Kept, Dropped, Slots, Slot, Signature, Document}}
use Rattle.ppdb_maps.specs.{declared.line.Line.TheVariants.{Link, Shares}, Forms.{MAX_SLOT}, Map.{Map, MethodLine, count_of, line_image, slots_of}}
use Rattle.ppdb_maps.{specs.Readable.{IsReadable, IsRow, IsCount, IsLineOf, IsSlottedOf, IsSlotOf, IsSignatureOf}, proofs.Numbers.{may_spell_decimal}}
use Rattle.ppdb_maps.proofs.{Numbers.{length_may_spell}, Spelled.{code_is}}
use Rattle.ppdb_base.specs.{Escaped.{is_plain, code_of, escaped_byte, escaped}, declared.limits.TheConstants.{MAX_ROWS, MAX_OFFSET}}
use Rattle.ppdb_maps_text.specs.MapTexts.{spaced, table_word, line_text, ended, count_says, slots_say, method_says, map_says, map_text, version_of, head_text}
use Rattle.ppdb_maps_text.{specs.MapTexts.{image_says, olds_of}, proofs.OneLine.{has_line, OneLine, by_row, by_cross, by_gone, one_line, says_row, says_cross}}
use Rattle.ppdb_maps_text.proofs.{OneLine.{says_gone}, Orders.{Up}, Starting.{olds_lined, olds_up}, Parts.{slot_says, signature_says, link_says, shares_says}}
use Rattle.map_compose.{proofs.Putting.{lines_join}, specs.Says.{lines_text}, specs.Joining.{IsShort as IsShortRun}, specs.Fits.{IsShort, IsShortLine, NamesFit}}
use Rattle.map_compose.proofs.{Bounds.{few}, Gathering.{few_runs}, Places.{line_runs}, Readable.{line_numbers, olds_rows, slots_up, slots_hold, slotted_rows}}
use Rattle.map_compose.proofs.Readable.{signed_rows, filter_hold}

digits_few : (n : ℕ) → n ≤ MAX_OFFSET → length (decimal n) ≤ 10
digits_few n le = length_may_spell (decimal n) (may_spell_decimal n (omega (arith, le)))

-- the numbers of a line
abbrev IsSmall : Line → Type 0
IsSmall Silent = Unit {0}
IsSmall (Rows t n) = n ≤ MAX_OFFSET
IsSmall (Row t o n) = (o ≤ MAX_OFFSET) × (n ≤ MAX_OFFSET)
IsSmall (Method m o n) = (m ≤ MAX_OFFSET) × (o ≤ MAX_OFFSET) × (n ≤ MAX_OFFSET)
IsSmall (Kept r) = (r.old ≤ MAX_OFFSET) × (r.new ≤ MAX_OFFSET) × (r.length ≤ MAX_OFFSET)
IsSmall (Dropped m) = m ≤ MAX_OFFSET
IsSmall (Slots m) = m ≤ MAX_OFFSET
IsSmall (Slot m o n) = (m ≤ MAX_OFFSET) × (o ≤ MAX_OFFSET) × (n ≤ MAX_OFFSET)
IsSmall (Signature m n) = (m ≤ MAX_OFFSET) × (n ≤ MAX_OFFSET)
IsSmall (Document d) = ⊥
IsSmall (Link value) = ⊥
IsSmall (Cross line) = (line.old ≤ MAX_OFFSET) × (line.new ≤ MAX_OFFSET)
IsSmall (Gone t o) = o ≤ MAX_OFFSET
IsSmall Shares = Unit {0}

words_long : (ws : List (List ℕ)) (most : ℕ) → AllByRecursion (λ w. length w ≤ 10) ws → length ws ≤ most → length (flat_map (λ w. 32 ∷ w) ws) ≤ most * 11
words_long [] most all le = omega (arith, le)
words_long (w ∷ ws) zero all le = absurd (omega (arith, le))
words_long (w ∷ ws) (suc most) all le =
    let rest = words_long ws most all.1 (omega (arith, le)) in
    omega (arith, all.0, rest, length-append (32 ∷ w) (flat_map (λ w. 32 ∷ w) ws))

spaced_long : (word : List ℕ) (ws : List (List ℕ)) → length word ≤ 10 → AllByRecursion (λ w. length w ≤ 10) ws → length ws ≤ 4
    → length (spaced word ws ++ 10 ∷ []) ≤ 64
spaced_long word ws short all few =
    let rest = words_long ws 4 all few in
    omega (arith, short, rest, length-append (spaced word ws) (10 ∷ []), length-append word (flat_map (λ w. 32 ∷ w) ws))

line_long : (x : Line) → IsSmall x → length (ended (line_text x)) ≤ 64
line_long Silent small = omega arith
line_long (Rows t n) small = spaced_long (codes "rows") (table_word t ∷ decimal n ∷ []) (omega arith) (omega arith, (digits_few n small, tt)) (omega arith)
line_long (Row t o n) small = spaced_long (codes "row") (table_word t ∷ decimal o ∷ decimal n ∷ []) (omega arith)
    (omega arith, (digits_few o small.0, (digits_few n small.1, tt))) (omega arith)
line_long (Method m o n) small = spaced_long (codes "method") (decimal m ∷ decimal o ∷ decimal n ∷ []) (omega arith)
    (digits_few m small.0, (digits_few o small.1, (digits_few n small.2, tt))) (omega arith)
line_long (Kept r) small = spaced_long (codes "run") (decimal r.old ∷ decimal r.new ∷ decimal r.length ∷ []) (omega arith)
    (digits_few r.old small.0, (digits_few r.new small.1, (digits_few r.length small.2, tt))) (omega arith)
line_long (Dropped m) small = spaced_long (codes "drop") (decimal m ∷ []) (omega arith) (digits_few m small, tt) (omega arith)
line_long (Slots m) small = spaced_long (codes "slots") (decimal m ∷ []) (omega arith) (digits_few m small, tt) (omega arith)
line_long (Slot m o n) small = spaced_long (codes "slot") (decimal m ∷ decimal o ∷ decimal n ∷ []) (omega arith)
    (digits_few m small.0, (digits_few o small.1, (digits_few n small.2, tt))) (omega arith)
line_long (Signature m n) small = spaced_long (codes "signature") (decimal m ∷ decimal n ∷ []) (omega arith)
    (digits_few m small.0, (digits_few n small.1, tt)) (omega arith)
line_long (Document d) small = absurd small
line_long (Link value) small = absurd small
line_long (Cross line) small = spaced_long (codes "row") (table_word line.table ∷ decimal line.old ∷ table_word line.to ∷ decimal line.new ∷ []) (omega arith)
    (omega arith, (digits_few line.old small.0, (omega arith, (digits_few line.new small.1, tt)))) (omega arith)
line_long (Gone t o) small = spaced_long (codes "gone") (table_word t ∷ decimal o ∷ []) (omega arith) (omega arith, (digits_few o small, tt)) (omega arith)
line_long Shares small = spaced_long (codes "shares") [] (omega arith) tt (omega arith)

lines_long : (xs : List Line) → AllByRecursion IsSmall xs → length (lines_text xs) ≤ length xs * 64
lines_long [] all = omega arith
lines_long (x ∷ xs) all = omega (arith, line_long x all.0, lines_long xs all.1, length-append (ended (line_text x)) (lines_text xs))

-- ---- lines of names

byte_long : (b : ℕ) → length (escaped_byte b) ≤ 4
byte_long b = of (is_plain b)
  where
    of : (p : Bool) → length (if p then b ∷ [] else code_of b) ≤ 4
    of true = omega arith
    of false = let four = ap length (code_is b) in omega (arith, four)

bytes_long : (bytes : List ℕ) → length (flat_map escaped_byte bytes) ≤ length bytes * 4
bytes_long [] = omega arith
bytes_long (b ∷ bytes) = omega (arith, byte_long b, bytes_long bytes, length-append (escaped_byte b) (flat_map escaped_byte bytes))

pub escaped_long : (bytes : List ℕ) → IsShort bytes → length (escaped bytes) ≤ 536870912
escaped_long [] short = omega arith
escaped_long (b ∷ bytes) short = omega (arith, short, bytes_long (b ∷ bytes))

one_word : (word a : List ℕ) → length (spaced word (a ∷ []) ++ 10 ∷ []) ≡ length word + length a + 2
one_word word a = omega (arith, length-append (spaced word (a ∷ [])) (10 ∷ []), length-append word ((32 ∷ a) ++ []), length-append (32 ∷ a) [])

pub two_words : (word a b : List ℕ) → length (spaced word (a ∷ b ∷ []) ++ 10 ∷ []) ≡ length word + length a + length b + 3
two_words word a b =
    omega (
      arith,
      length-append (spaced word (a ∷ b ∷ [])) (10 ∷ []),
      length-append word ((32 ∷ a) ++ ((32 ∷ b) ++ [])),
      length-append (32 ∷ a) ((32 ∷ b) ++ []),
      length-append (32 ∷ b) [],
    )

named_long : (d : NameLine) → IsShortLine d → length (ended (line_text (Document d))) ≤ 1073741840
named_long d short =
    let long : length (ended (line_text (Document d))) ≡ 8 + length (escaped d.old) + length (escaped d.new) + 3 =
    two_words (codes "document") (escaped d.old) (escaped d.new) in
    omega (arith, long, escaped_long d.old short.0, escaped_long d.new short.1)

all_named_long : (ds : List NameLine) → AllByRecursion IsShortLine ds → length (lines_text (map (λ d. Document d) ds)) ≤ length ds * 1073741840
all_named_long [] all = omega arith
all_named_long (d ∷ ds) all = omega (
  arith,
  named_long d all.0,
  all_named_long ds all.1,
  length-append (ended (line_text (Document d))) (lines_text (map (λ x. Document x) ds)),
)

link_long : (o : Option (List ℕ)) → IfSome o IsShort → length (lines_text (link_says o)) ≤ 1073741840
link_long None short = omega arith
link_long (Some value) short =
    let long : length (ended (line_text (Link value))) ≡ 4 + length (escaped value) + 2 = one_word (codes "link") (escaped value) in
    omega (arith, long, escaped_long value short, length-append (ended (line_text (Link value))) [])

shares_long : (b : Bool) → length (lines_text (shares_says b)) ≤ 64
shares_long false = omega arith
shares_long true = omega (arith, line_long Shares tt, length-append (ended (line_text Shares)) [])

-- ---- how many lines

-- each says so many lines at most, and each of them is small
record Few {A : Type 0} (says : A → List Line) (most : ℕ) (a : A) : Type 0 where
  few : length (says a) ≤ most
  small : AllByRecursion IsSmall (says a)

flat_few : {A : Type 0} (says : A → List Line) (most : ℕ) (xs : List A) → AllByRecursion (Few says most) xs → length (flat_map says xs) ≤ length xs * most
flat_few says most [] all = omega arith
flat_few says most (x ∷ xs) all = let one = all.0.few in omega (arith, one, flat_few says most xs all.1, length-append (says x) (flat_map says xs))

both_small : (xs ys : List Line) → AllByRecursion IsSmall xs → AllByRecursion IsSmall ys → AllByRecursion IsSmall (xs ++ ys)
both_small [] ys a b = b
both_small (x ∷ xs) ys a b = (a.0, both_small xs ys a.1 b)

flat_small : {A : Type 0} (says : A → List Line) (most : ℕ) (xs : List A) → AllByRecursion (Few says most) xs → AllByRecursion IsSmall (flat_map says xs)
flat_small says most [] all = tt
flat_small says most (x ∷ xs) all = both_small (says x) (flat_map says xs) all.0.small (flat_small says most xs all.1)

each : {A : Type 0} (P Q : A → Type 0) → ((a : A) → P a → Q a) → (xs : List A) → AllByRecursion P xs → AllByRecursion Q xs
each P Q holds [] all = tt
each P Q holds (x ∷ xs) all = (holds x all.0, each P Q holds xs all.1)

mapped : {A B : Type 0} (P : A → Type 0) (Q : B → Type 0) (g : A → B) → ((a : A) → P a → Q (g a)) → (xs : List A) → AllByRecursion P xs
    → AllByRecursion Q (map g xs)
mapped P Q g holds [] all = tt
mapped P Q g holds (x ∷ xs) all = (holds x all.0, mapped P Q g holds xs all.1)

-- the parts of a text
short_sum : (all head says first rest value others names lines few : ℕ) → all ≡ head + says → head ≡ 10 → says ≡ first + rest
    → rest ≡ value + others + names → first ≤ 64 → value ≤ 1073741840 → others ≤ lines * 64
    → lines ≤ 45 * 16777217 + 16777216 + 16777216 * 65537 + 16777216 + 16777216 * 2147483648
    → names ≤ few * 1073741840 → few ≤ 268435456 → all < 0xffffffffffffffff
short_sum all head says first rest value others names lines few a b c d e f g h i j = omega (arith, a, b, c, d, e, f, g, h, i, j)

module _ (m : Map) (readable : IsReadable m) where
  row_most : (ns : List ℕ) → AllByRecursion IsRow ns → AllByRecursion (λ k. k ≤ MAX_ROWS) ns
  row_most ns all = each IsRow (λ k. k ≤ MAX_ROWS) (λ k is. is.1) ns all

  few_rows : (ns : List ℕ) → Up ns → AllByRecursion IsRow ns → length ns ≤ 16777216
  few_rows ns up all = few MAX_ROWS ns up (row_most ns all)

  -- a row says one line at most
  one_says : (ls : List Line) (x : Line) → ls ≡ x ∷ [] → IsSmall x → (length ls ≤ 1) × AllByRecursion IsSmall ls
  one_says ls x is small = subst (λ ls. (length ls ≤ 1) × AllByRecursion IsSmall ls) (sym is) (omega arith, (small, tt))

  image_says_few : (t o : ℕ) → OneLine m t o
      → (length (image_says t o (line_image m t o)) ≤ 1) × AllByRecursion IsSmall (image_says t o (line_image m t o))
  image_says_few _ _ (by_row line holds row cross gone) =
      one_says _ (Row line.table line.old line.new) (says_row m line.table line.old line.new row)
      (let old = holds.0.1 in let new = holds.1.1 in (omega (arith, old), omega (arith, new)))
  image_says_few _ _ (by_cross line holds some row cross gone) =
      one_says _ (Cross line) (says_cross m line holds.2 row cross)
      (let old = holds.0.1 in let new = holds.1.1 in (omega (arith, old), omega (arith, new)))
  image_says_few _ _ (by_gone line holds some row cross gone) =
      one_says _ (Gone line.table line.old) (says_gone m line.table line.old row cross gone) (let old = holds.0.1 in omega (arith, old))

  old_few : (t o : ℕ) → has_line m t o ≡ true → Few (λ o. image_says t o (line_image m t o)) 1 o
  old_few t o there = let h = image_says_few t o (one_line m readable t o there) in record { few = h.0; small = h.1 }

  olds_few : (t : ℕ) → AllByRecursion (Few (λ o. image_says t o (line_image m t o)) 1) (olds_of m t)
  olds_few t = each (λ o. has_line m t o ≡ true) (Few (λ o. image_says t o (line_image m t o)) 1) (old_few t) (olds_of m t) (olds_lined m t)

  count_few : (count : Count) → IsCount count → Few (count_says m) 16777217 count
  count_few count is = record {
    few =
        let olds = few_rows (olds_of m count.table) (olds_up m count.table)
        (each (λ o. IsRow o × (is_some (count_of m count.table) ≡ true)) IsRow (λ o row. row.0) (olds_of m count.table) (olds_rows m readable count.table)) in
        let lines = flat_few (λ o. image_says count.table o (line_image m count.table o)) 1 (olds_of m count.table) (olds_few count.table) in
        omega (arith, olds, lines);
    small = (
      omega (arith, is.1),
      flat_small (λ o. image_says count.table o (line_image m count.table o)) 1 (olds_of m count.table) (olds_few count.table),
    );
  }

  slots_few : (method : ℕ) → IsSlottedOf m method → Few (slots_say m) 65537 method
  slots_few method is = record {
    few =
        let slots = few MAX_SLOT (map (λ (x : SlotImage). x.old) (slots_of m method)) (slots_up m readable method)
        (mapped (λ (x : SlotImage). x.old ≤ MAX_SLOT) (λ k. k ≤ MAX_SLOT) (λ (x : SlotImage). x.old) (λ x le. le) (slots_of m method)
        (slots_hold m readable method)) in
        let same = length-map (slots_of m method) (λ (x : SlotImage). x.old) in
        let also = length-map (slots_of m method) slot_says in
        omega (arith, slots, same, also);
    small = (
      omega (arith, is.0.1),
      mapped (λ (x : SlotImage). IsSmall (slot_says x)) IsSmall slot_says (λ x small. small) (slots_of m method)
          (filter_hold (IsSlotOf m) (λ (x : SlotImage). IsSmall (slot_says x)) (λ x. nat_eq x.method method)
          (λ x slot at. let e = eqb-true x.method method at in (omega (arith, e, is.0.1), omega (arith, slot.0), omega (arith, slot.1)))
          m.slots readable.slots),
    );
  }

  line_few : (line : MethodLine) → IsLineOf m line → Few method_says 2147483648 line
  line_few line is = record {
    few =
        let runs = few_runs line.runs (line_runs m line is) in
        let same = length-map line.runs (λ r. Kept r) in
        omega (arith, runs, same);
    small = (
      (omega (arith, is.0.1), is.1, is.2),
      mapped IsShortRun IsSmall (λ r. Kept r)
          (λ r short. (omega (arith, short.1), omega (arith, short.2), omega (arith, short.1))) line.runs (line_runs m line is).short,
    );
  }

  few_counts : length m.counts ≤ 45
  few_counts =
      let counts = few 0x2c (map (λ (c : Count). c.table) m.counts) readable.ascends.counts
      (mapped IsCount (λ k. k ≤ 0x2c) (λ (c : Count). c.table) (λ c is. is.0) m.counts readable.counts) in
      let same = length-map m.counts (λ (c : Count). c.table) in
      omega (arith, counts, same)

  few_methods : length m.methods ≤ 16777216
  few_methods =
      let methods = few_rows (map (λ (l : MethodLine). l.method) m.methods) readable.ascends.methods (line_numbers m readable) in
      let same = length-map m.methods (λ (l : MethodLine). l.method) in
      omega (arith, methods, same)

  few_signatures : length m.signatures ≤ 16777216
  few_signatures =
      let methods = few_rows (map (λ (x : SignatureImage). x.method) m.signatures) readable.ascends.signatures (signed_rows m readable) in
      let same = length-map m.signatures (λ (x : SignatureImage). x.method) in
      omega (arith, methods, same)

  signatures_small : AllByRecursion IsSmall (map signature_says m.signatures)
  signatures_small = mapped (IsSignatureOf m) IsSmall signature_says (λ x is. (omega (arith, is.0.1), omega (arith, is.1))) m.signatures readable.signatures

  drops_small : (ns : List ℕ) → AllByRecursion IsRow ns → AllByRecursion IsSmall (map (λ k. Dropped k) ns)
  drops_small ns all = mapped IsRow IsSmall (λ k. Dropped k) (λ k is. omega (arith, is.1)) ns all

  -- the lines but those of names and of the value
  abbrev other_lines : List Line
  other_lines = flat_map (count_says m) m.counts
      ++ (map (λ k. Dropped k) m.drops ++ (flat_map (slots_say m) m.slotted ++ (map signature_says m.signatures ++ flat_map method_says m.methods)))

  says_small : AllByRecursion IsSmall other_lines
  says_small =
      both_small (flat_map (count_says m) m.counts) _ (flat_small (count_says m) 16777217 m.counts
      (each IsCount (Few (count_says m) 16777217) count_few m.counts readable.counts))
      (both_small (map (λ k. Dropped k) m.drops) _ (drops_small m.drops readable.drops)
      (both_small (flat_map (slots_say m) m.slotted) _ (flat_small (slots_say m) 65537 m.slotted
      (each (IsSlottedOf m) (Few (slots_say m) 65537) slots_few m.slotted readable.slotted))
      (both_small (map signature_says m.signatures) _ signatures_small
      (flat_small method_says 2147483648 m.methods (each (IsLineOf m) (Few method_says 2147483648) line_few m.methods readable.methods)))))

  few_lines : length other_lines ≤ 45 * 16777217 + 16777216 + 16777216 * 65537 + 16777216 + 16777216 * 2147483648
  few_lines =
      let tables = flat_few (count_says m) 16777217 m.counts (each IsCount (Few (count_says m) 16777217) count_few m.counts readable.counts) in
      let drops = few_rows m.drops readable.ascends.drops readable.drops in
      let slotted = few_rows m.slotted readable.ascends.slotted (slotted_rows m readable) in
      let slots = flat_few (slots_say m) 65537 m.slotted (each (IsSlottedOf m) (Few (slots_say m) 65537) slots_few m.slotted readable.slotted) in
      let lines = flat_few method_says 2147483648 m.methods (each (IsLineOf m) (Few method_says 2147483648) line_few m.methods readable.methods) in
      let counts = few_counts in
      let methods = few_methods in
      let signatures = few_signatures in
      let same = length-map m.drops (λ k. Dropped k) in
      let also = length-map m.signatures signature_says in
      let rest : List Line = map signature_says m.signatures ++ flat_map method_says m.methods in
      let one = length-append (flat_map (count_says m) m.counts) (map (λ k. Dropped k) m.drops ++ (flat_map (slots_say m) m.slotted ++ rest)) in
      let two = length-append (map (λ k. Dropped k) m.drops) (flat_map (slots_say m) m.slotted ++ rest) in
      let three = length-append (flat_map (slots_say m) m.slotted) rest in
      let four = length-append (map signature_says m.signatures) (flat_map method_says m.methods) in
      omega (arith, tables, drops, slotted, slots, signatures, lines, counts, methods, same, also, one, two, three, four)

  text_parts : (ls bs cs ds es gs hs : List Line) → length (lines_text (ls ++ (bs ++ (cs ++ (ds ++ (es ++ (gs ++ hs)))))))
      ≡ length (lines_text ls) + length (lines_text (bs ++ (cs ++ (ds ++ (es ++ hs))))) + length (lines_text gs)
  text_parts ls bs cs ds es gs hs =
      let one = joined ls (bs ++ (cs ++ (ds ++ (es ++ (gs ++ hs))))) in
      let two = joined bs (cs ++ (ds ++ (es ++ (gs ++ hs)))) in
      let three = joined cs (ds ++ (es ++ (gs ++ hs))) in
      let four = joined ds (es ++ (gs ++ hs)) in
      let five = joined es (gs ++ hs) in
      let six = joined gs hs in
      let others = joined bs (cs ++ (ds ++ (es ++ hs))) in
      let seven = joined cs (ds ++ (es ++ hs)) in
      let eight = joined ds (es ++ hs) in
      let nine = joined es hs in
      omega (arith, one, two, three, four, five, six, others, seven, eight, nine)
    where
      joined : (xs ys : List Line) → length (lines_text (xs ++ ys)) ≡ length (lines_text xs) + length (lines_text ys)
      joined xs ys = ap length (lines_join xs ys) ∙ length-append (lines_text xs) (lines_text ys)

  pub text_short : NamesFit 268435456 m → length (map_text m) < 0xffffffffffffffff
  text_short fit =
      let lines = lines_long other_lines says_small in
      let few = few_lines in
      let names = all_named_long m.documents fit.short in
      let most = fit.few in
      let value = link_long m.link fit.link in
      let shares = shares_long m.shares in
      let parts = text_parts (link_says m.link) (flat_map (count_says m) m.counts) (map (λ k. Dropped k) m.drops) (flat_map (slots_say m) m.slotted)
      (map signature_says m.signatures) (map (λ d. Document d) m.documents) (flat_map method_says m.methods) in
      let rest : List Line = link_says m.link ++ (flat_map (count_says m) m.counts ++ (map (λ k. Dropped k) m.drops ++ (flat_map (slots_say m) m.slotted
      ++ (map signature_says m.signatures ++ (map (λ d. Document d) m.documents ++ flat_map method_says m.methods))))) in
      let whole = ap length (lines_join (shares_says m.shares) rest) ∙ length-append (lines_text (shares_says m.shares)) (lines_text rest) in
      let all = length-append (ended (head_text (version_of m))) (lines_text (map_says m)) in
      short_sum (length (map_text m)) _ _ _ _ _ _ _ _ _ all refl whole parts shares value lines few names most
