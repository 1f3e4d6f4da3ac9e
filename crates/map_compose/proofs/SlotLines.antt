-- How long the lines of a method's slots are, and what is counted of them.
use Rattle.std.proofs.Common.{ℕ, zero, suc, ◌≡◌, ◌+◌, ◌*◌, ◌<◌, ◌≤◌, ◌++◌, ◌||◌, Bool, true, false, cond, List, [], ◌∷◌, length, take, map, refl, sym, ap, ◌∙◌}
use Rattle.std.{proofs.Common.{arith, subst, inl, inr, length-append, Option, Some, None, Bor}, specs.Prelude.{nat_eq, nat_lt}, specs.Fmt.{decimal}}
use Rattle.std.specs.{List.{AllByRecursion, filter_map, find, list_any, slice_get, cons_option}, List.Sorted.{IsStrictlySortedBy, IsPartitionedBy, IsPartitionPoint}}
use Rattle.std.{specs.Option.{option_map, option_and_then, option_copied}, specs.Ordering.{nat_cmp}, specs.Slice.{IsItemAt}, proofs.lemmas.Bool.{eqb-true, eq-eqb}}
use Rattle.std.proofs.lemmas.{Cmp.{nat_cmp_total}, Fmt.{length-decimal-le}, List.{map-append}}
use Rattle.ppdb_maps.specs.{declared.entries.SlotImage.{SlotImage}, declared.line.Line.TheVariants.{Slot}, Forms.{MAX_SLOT}, Map.{Map, row_within, has_slots}}
use Rattle.ppdb_maps.{specs.Map.{slot_line, slot_image, slots_of}, specs.Readable.{IsReadable, IsSlotOf}, proofs.Halving.{found_lent, by_number, if_passes}}
use Rattle.ppdb_maps.proofs.OneList.{each_found}
use Rattle.ppdb_maps_text.{specs.MapTexts.{ended, line_text}, proofs.Found.{find_filter}, proofs.Parts.{slot_says}}
use Rattle.map_compose.specs.{declared.slot_blocks.SlotBlock.{SlotBlock}, declared.slot_blocks.SlotBlocks.{SlotBlocks}, Composed.{composed_slot, slot_entry}}
use Rattle.map_compose.specs.{Composed.{slot_sources, of_image}, Says.{lines_text, followed, slot_images}, Slots.{slot_digits, slots_length, block_of, AreBlocksOf}}
use Rattle.map_compose.proofs.{Bounds.{few_slots_of}, Following.{follows_image, slot_follows}, Putting.{take_more, take_past, within}, Readable.{filter_hold}}
use Rattle.map_compose.proofs.Readable.{slots_up}

-- ---- the length of lines

slot_length : (method : ℕ) (x : SlotImage) → length (ended (line_text (Slot method x.old x.new)))
    ≡ 8 + length (decimal method) + (length (decimal x.old) + length (decimal x.new))
slot_length method x =
    let a = length-append (line_text (Slot method x.old x.new)) (10 ∷ []) in
    let b = length-append (decimal method) (32 ∷ (decimal x.old ++ (32 ∷ (decimal x.new ++ [])))) in
    let e = length-append (decimal x.old) (32 ∷ (decimal x.new ++ [])) in
    let f = length-append (decimal x.new) [] in
    omega (arith, a, b, e, f)

pub slots_long : (method : ℕ) (xs : List SlotImage) → slots_length method xs ≡ length xs * (8 + length (decimal method)) + slot_digits xs
slots_long method [] = omega arith
slots_long method (x ∷ xs) =
    let one = slot_length method x in
    let rest = slots_long method xs in
    let both = length-append (ended (line_text (Slot method x.old x.new))) (lines_text (map (λ (s : SlotImage). Slot method s.old s.new) xs)) in
    omega (arith, one, rest, both)

digits_join : (xs ys : List SlotImage) → slot_digits (xs ++ ys) ≡ slot_digits xs + slot_digits ys
digits_join [] ys = omega arith
digits_join (x ∷ xs) ys = omega (arith, digits_join xs ys)

-- ---- bounds

few_digits : (xs : List SlotImage) → AllByRecursion (λ (x : SlotImage). (x.old ≤ MAX_SLOT) × (x.new ≤ MAX_SLOT)) xs → slot_digits xs ≤ 20 * length xs
few_digits [] all = omega arith
few_digits (x ∷ xs) all =
    let a = length-decimal-le 10 x.old (omega arith) (omega (arith, all.0.0)) (omega (arith, all.0.0)) in
    let b = length-decimal-le 10 x.new (omega arith) (omega (arith, all.0.1)) (omega (arith, all.0.1)) in
    omega (arith, a, b, few_digits xs all.1)

digits_small : (m : Map) (method : ℕ) → IsReadable m → slot_digits (slots_of m method) ≤ 4294967295
digits_small m method readable =
    let digits = few_digits (slots_of m method) (filter_hold (IsSlotOf m) (λ (x : SlotImage). (x.old ≤ MAX_SLOT) × (x.new ≤ MAX_SLOT)) (λ x. nat_eq x.method method)
    (λ x is at. (is.0, is.1)) m.slots readable.slots) in
    let few = few_slots_of m method readable in
    omega (arith, digits, few)

-- ---- one slot more, and one block more

abbrev pub numbers : SlotImage → ℕ × ℕ
numbers x = (x.old, x.new)

slot_at : (xs : List SlotImage) (i old new : ℕ) → option_map numbers (slice_get xs i) ≡ Some (old, new)
    → (x : SlotImage) × ((slice_get xs i ≡ Some x) × (x.old ≡ old) × (x.new ≡ new))
slot_at xs i old new is = of (slice_get xs i) refl is
  where
    of : (o : Option SlotImage) → slice_get xs i ≡ o → option_map numbers o ≡ Some (old, new)
        → (x : SlotImage) × ((slice_get xs i ≡ Some x) × (x.old ≡ old) × (x.new ≡ new))
    of None at is = absurd (cc)
    of (Some x) at is =
        let e : ◌≡◌ {A = ℕ × ℕ} (x.old, x.new) (old, new) = cc in (x, (at, ap (λ (p : ℕ × ℕ). p.0) e, ap (λ (p : ℕ × ℕ). p.1) e))

pub slot_inside : (xs : List SlotImage) (i old new : ℕ) → option_map numbers (slice_get xs i) ≡ Some (old, new) → i < length xs
slot_inside xs i old new is = let x = slot_at xs i old new is in within xs i x.0 x.1.0

pub digits_next : (xs : List SlotImage) (i old new : ℕ) → option_map numbers (slice_get xs i) ≡ Some (old, new)
    → slot_digits (take (i + 1) xs) ≡ slot_digits (take i xs) + (length (decimal old) + length (decimal new))
digits_next xs i old new is =
    let x = slot_at xs i old new is in
    let more = ap slot_digits (take_more xs i x.0 x.1.0) in
    let join = digits_join (take i xs) (x.0 ∷ []) in
    let one = ap (λ n. length (decimal n)) x.1.1 in
    let two = ap (λ n. length (decimal n)) x.1.2 in
    omega (arith, more, join, one, two)

slots_past : (xs : List SlotImage) (i : ℕ) → option_map numbers (slice_get xs i) ≡ None → take i xs ≡ xs
slots_past xs i is = take_past xs i (of (slice_get xs i) is)
  where
    of : (o : Option SlotImage) → option_map numbers o ≡ None → o ≡ None
    of None is = refl
    of (Some x) is = absurd (cc)

long_past : {X : Type 0} (xs : List X) (i : ℕ) → slice_get xs i ≡ None → length xs ≤ i
long_past [] i is = omega arith
long_past (x ∷ xs) zero is = absurd (cc)
long_past (x ∷ xs) (suc i) is = omega (arith, long_past xs i is)

abbrev pub block : ℕ → ℕ → ℕ → SlotBlock
block method slots digits = record { method = method; slots = slots; digits = digits }

pub block_is : (m : Map) (method i digits : ℕ) → option_map numbers (slice_get (slots_of m method) i) ≡ None
    → i ≤ length (slots_of m method) → digits ≡ slot_digits (take i (slots_of m method))
    → block method i digits ≡ block_of m method
block_is m method i digits is most are =
    ap (block method i) (are ∙ ap slot_digits (slots_past (slots_of m method) i is))
    ∙ ap (λ n. block method n (slot_digits (slots_of m method)))
    (let past = long_past (slots_of m method) i (of (slice_get (slots_of m method) i) is) in omega (arith, past, most))
  where
    of : (o : Option SlotImage) → option_map numbers o ≡ None → o ≡ None
    of None is = refl
    of (Some x) is = absurd (cc)

pub blocks_next : (m : Map) (i method : ℕ) (one : SlotBlock) (old new : List SlotBlock) → slice_get m.slotted i ≡ Some method
    → old ≡ map (block_of m) (take i m.slotted) → one ≡ block_of m method → new ≡ old ++ one ∷ [] → new ≡ map (block_of m) (take (i + 1) m.slotted)
blocks_next m i method one old new is was made are =
    are ∙ ap (λ l. l ++ one ∷ []) was ∙ ap (λ b. map (block_of m) (take i m.slotted) ++ b ∷ []) made
    ∙ sym (ap (map (block_of m)) (take_more m.slotted i method is) ∙ map-append (block_of m) (take i m.slotted) (method ∷ []))

-- ---- finding a block

block_numbers : (m : Map) (ns : List ℕ) → map (λ (b : SlotBlock). b.method) (map (block_of m) ns) ≡ ns
block_numbers m [] = refl
block_numbers m (n ∷ ns) = ap (λ l. n ∷ l) (block_numbers m ns)

blocks_rise : (m : Map) (blocks : SlotBlocks) → IsReadable m → AreBlocksOf blocks m
    → IsStrictlySortedBy nat_cmp (map (λ (b : SlotBlock). b.method) blocks.blocks.items)
unfolding IsStrictlySortedBy
blocks_rise m blocks readable are = elim are.are [
  | inl none ↦ subst (λ l. IsStrictlySortedBy nat_cmp (map (λ (b : SlotBlock). b.method) l)) (sym none) tt
  | inr all ↦ subst (λ l. IsStrictlySortedBy nat_cmp l) (sym (ap (map (λ (b : SlotBlock). b.method)) all ∙ block_numbers m m.slotted)) readable.ascends.slotted
]

pub lent_block : (blocks : SlotBlocks) (m : Map) (k i : ℕ) (r : Option (Bor SlotBlock)) → IsReadable m → AreBlocksOf blocks m → IsItemAt blocks.blocks.items i r
    → (IsPartitionedBy (λ (b : SlotBlock). nat_lt b.method k) blocks.blocks.items
    → IsPartitionPoint (λ (b : SlotBlock). nat_lt b.method k ≡ true) (λ (b : SlotBlock). nat_lt b.method k ≡ false) blocks.blocks.items i)
    → find (λ (b : SlotBlock). nat_eq b.method k) blocks.blocks.items ≡ if_passes (λ (b : SlotBlock). nat_eq b.method k) (option_copied r)
lent_block blocks m k i r readable are item point =
    found_lent (λ (b : SlotBlock). nat_lt b.method k) (λ (b : SlotBlock). nat_eq b.method k) blocks.blocks.items i r item
    (by_number (λ (b : SlotBlock). b.method) k blocks.blocks.items (blocks_rise m blocks readable are)) point

-- ---- slots that are all taken on

-- a block that is found is that of a method with a `slots` line
block_found : (m : Map) (k : ℕ) (ns : List ℕ) (block : SlotBlock) → find (λ (b : SlotBlock). nat_eq b.method k) (map (block_of m) ns) ≡ Some block
    → (block ≡ block_of m k) × (list_any (nat_eq k) ns ≡ true)
block_found m k [] block is = absurd (cc)
block_found m k (n ∷ ns) block is = of (nat_eq n k) refl is (λ rest. block_found m k ns block rest)
  where
    or_true : (b : Bool) → (b || true) ≡ true
    or_true true = refl
    or_true false = refl

    of : (b : Bool) → nat_eq n k ≡ b → cond b (Some (block_of m n)) (find (λ (b : SlotBlock). nat_eq b.method k) (map (block_of m) ns)) ≡ Some block
        → (find (λ (b : SlotBlock). nat_eq b.method k) (map (block_of m) ns) ≡ Some block → (block ≡ block_of m k) × (list_any (nat_eq k) ns ≡ true))
        → (block ≡ block_of m k) × (list_any (nat_eq k) (n ∷ ns) ≡ true)
    of true same is rest =
        let e : n ≡ k = eqb-true n k same in
        let found : block_of m n ≡ block = cc in (
          sym found ∙ ap (block_of m) e,
          rw (eq-eqb k n (sym e)) refl,
        )
    of false other is rest = let h = rest is in (h.0, rw h.1 (or_true (nat_eq k n)))

pub record Taken (s : Map) (image : ℕ) (block : SlotBlock) : Type 0 where
  pub slots : block.slots ≡ length (slots_of s image)
  pub digits : block.digits ≡ slot_digits (slots_of s image)
  pub small : block.digits ≤ 4294967295
  pub lines : has_slots s image ≡ true

pub taken : (s : Map) (image : ℕ) (blocks : SlotBlocks) (block : SlotBlock) → IsReadable s → AreBlocksOf blocks s
    → Some block ≡ find (λ (b : SlotBlock). nat_eq b.method image) blocks.blocks.items → Taken s image block
taken s image blocks block readable are is = elim are.are [
  | inl none ↦ absurd (let e : Some block ≡ None = is ∙ ap (find (λ (b : SlotBlock). nat_eq b.method image)) none in cc)
  | inr all ↦ of (block_found s image s.slotted block (sym (is ∙ ap (find (λ (b : SlotBlock). nat_eq b.method image)) all)))
]
  where
    of : (block ≡ block_of s image) × (list_any (nat_eq image) s.slotted ≡ true) → Taken s image block
    of h = record {
      slots = ap (λ (b : SlotBlock). b.slots) h.0;
      digits = ap (λ (b : SlotBlock). b.digits) h.0;
      small = let e = ap (λ (b : SlotBlock). b.digits) h.0 in let few = digits_small s image readable in omega (arith, e, few);
      lines = h.1;
    }

-- each slot of a method is found by its number
own_slots : (s : Map) (image : ℕ) → IsReadable s → has_slots s image ≡ true
    → AllByRecursion (λ (x : SlotImage). slot_image s image x.old ≡ Some x.new) (slots_of s image)
own_slots s image readable lines =
    each_found (λ (x : SlotImage). x.old) nat_eq nat_cmp eqb-true (λ a. eq-eqb a a refl) nat_cmp_total
    (λ (x : SlotImage). slot_image s image x.old ≡ Some x.new) (slots_of s image) (slots_up s readable image)
    (λ x found.
    ap (λ b. cond b (slot_line s image x.old) (Some x.old)) lines
    ∙ ap (option_map (λ (y : SlotImage). y.new)) (sym (find_filter (λ (y : SlotImage). nat_eq y.method image) (λ (y : SlotImage). nat_eq y.old x.old)
    s.slots) ∙ found))

pub images_taken : (f s : Map) (method image : ℕ) → IsReadable s → followed f s method ≡ Some image → has_slots f method ≡ false → has_slots s image ≡ true
    → map (λ (x : SlotImage). Slot method x.old x.new) (slots_of s image) ≡ slot_images f s method
images_taken f s method image readable follows none lines =
    sym (ap (λ xs. map slot_says (filter_map (slot_entry f s method) xs)) sources ∙ of (slots_of s image) (own_slots s image readable lines))
  where
    sources : slot_sources f s method ≡ slots_of s image
    sources = ap (λ b. cond b (slots_of f method) (of_image [] (slots_of s) (row_within f 0x06 method))) none
        ∙ ap (of_image [] (slots_of s)) (follows_image f s method image follows).first

    after : (old : ℕ) → composed_slot f s method old ≡ slot_image s image old
    after old = slot_follows f s method image old follows ∙ ap (λ b. option_and_then (slot_image s image) (cond b (slot_line f method old) (Some old))) none

    of : (xs : List SlotImage) → AllByRecursion (λ (x : SlotImage). slot_image s image x.old ≡ Some x.new) xs
        → map slot_says (filter_map (slot_entry f s method) xs) ≡ map (λ (x : SlotImage). Slot method x.old x.new) xs
    of [] all = refl
    of (x ∷ xs) all =
        ap (λ o. map slot_says (cons_option (option_map (λ new. record { method = method; old = x.old; new = new }) o) (filter_map (slot_entry f s method) xs)))
        (after x.old ∙ all.0)
        ∙ ap (λ l. Slot method x.old x.new ∷ l) (of xs all.1)
