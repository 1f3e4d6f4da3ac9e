-- What stands at an item's index is the item.
use Rattle.std.proofs.Common.{◌≡◌, ◌≢◌, ℕ, zero, suc, ◌+◌, ◌*◌, ◌<◌, ◌≤◌, true, false, not, List, [], ◌∷◌, ◌++◌, length, drop, take, flat_map, sum_by, min, Some}
use Rattle.std.{proofs.Common.{refl, sym, ap, subst, ◌∙◌, append_assoc, arith, bytes_eq, length-append}, proofs.Math.Seq.{take-append_seam}, specs.Prelude.{nat_lt}}
use Rattle.std.{specs.Prelude.{get_or, All, ◌==◌, option_map, None, if◌then◌else◌}, specs.List.{before_first, position_or_len}, proofs.lemmas.Bool.{le-leb, lt-ltb}}
use Rattle.std.proofs.lemmas.Bool.{ne_eqb}
use native.Mathlib.Numerals.{one-add}
use Rattle.std.proofs.lemmas.{List.{take_at, length-drop, append-nil, get_or_append_left}, List.Elements.{All-get_or, All-head, All-tail}, List.Sums.{sum_by-cons}}
use Rattle.std.proofs.lemmas.List.Sums.{prefix_len-le-length, position_or_len_is}
use Rattle.cli_ints.{specs.Compressed.{SpellsUnsigned}, specs.Shortest.{short_unsigned}, proofs.Shortest.{short_unsigned-shortest}}
use Rattle.ppdb_heaps.{specs.Heaps.{text_at, blob_at, guid_at, until_zero, BeginsWithBlob}, proofs.Heaps.{blob-begins}}
use Rattle.ppdb_build_heaps.{specs.Laws.{WrittenItemsAreRead}, specs.Items.{IsIn, index_of, as_text, as_blob, shortest}, proofs.Items.{at_index, before-no}}

least : (n : ℕ) → n < 0x20000000 → min n 0x1fffffff ≡ n
least n h = omega arith

-- ---- blobs

blob-begins-at : (items : List (List ℕ)) (item tail : List ℕ) → IsIn items item → length item < 0x20000000
    → BeginsWithBlob (drop (index_of as_blob items item) (flat_map as_blob items ++ tail)) item
blob-begins-at items item tail is short =
    let at = at_index as_blob items item tail is in record {
      spelling = shortest (length item);
      left = at.0;
      parts = at.1 ∙ append_assoc (shortest (length item)) item at.0;
      spelled = subst (λ n. SpellsUnsigned (short_unsigned n) (length item)) (sym (least (length item) short)) (short_unsigned-shortest
          (length item) short).spelled;
    }

one-byte : length (as_blob []) ≡ 1
unfolding short_unsigned
one-byte = refl

-- the empty blob has index 0, all others have others
pub blob-there : (items : List (List ℕ)) (item tail : List ℕ) → IsIn ([] ∷ items) item → length item < 0x20000000
    → blob_at (flat_map as_blob ([] ∷ items) ++ tail) (index_of as_blob ([] ∷ items) item) ≡ Some item
unfolding blob_at
blob-there items [] tail is short = refl
blob-there items (b ∷ item) tail is short =
    by (index_of as_blob ([] ∷ items) (b ∷ item)) refl
  where
    late : 1 ≤ index_of as_blob ([] ∷ items) (b ∷ item)
    late =
        let p = bytes_eq (b ∷ item) in
        omega (
          arith,
          one-byte,
          sum_by-cons (λ other. length (as_blob other)) [] (before_first p items),
          ap (sum_by (λ other. length (as_blob other))) (before-no p [] items refl),
        )

    by : (n : ℕ) → index_of as_blob ([] ∷ items) (b ∷ item) ≡ n → blob_at (flat_map as_blob ([] ∷ items) ++ tail) n ≡ Some (b ∷ item)
    by zero e = absurd (omega (arith, late, e))
    by (suc i) e = (blob-begins (flat_map as_blob ([] ∷ items) ++ tail) (b ∷ item) i).1
        (subst (λ n. BeginsWithBlob (drop n (flat_map as_blob ([] ∷ items) ++ tail)) (b ∷ item)) e (blob-begins-at ([] ∷ items) (b ∷ item) tail is short))

-- ---- texts

seam : (xs : List ℕ) (y : ℕ) (ys : List ℕ) → get_or (xs ++ y ∷ ys) (length xs) 0 ≡ y
seam [] y ys = refl
seam (x ∷ xs) y ys = seam xs y ys

-- the bytes up to the first zero
until : (text rest : List ℕ) → All (λ b. b ≢ 0) text → until_zero (text ++ 0 ∷ rest) ≡ Some text
until text rest whole =
    let all = text ++ 0 ∷ rest in
    let len = length-append text (0 ∷ rest) in
    let at : position_or_len (λ b. b == 0) all ≡ length text =
    position_or_len_is (λ b. b == 0) all (length text) 0 (omega (arith, len)) (λ k before. earlier k before) (λ within. here) in
    let within : length text < length all = omega (arith, len) in
    ap (option_map (λ n. take n all)) (ap (λ n. if nat_lt n (length all) then Some n else None) at
    ∙ ap (λ b. if b then Some (length text) else None) (lt-ltb (length text) (length all) within))
    ∙ ap Some (take-append_seam text (0 ∷ rest))
  where
    earlier : (k : ℕ) → k < length text → (get_or (text ++ 0 ∷ rest) k 0 == 0) ≡ false
    earlier k before = ap (λ b. b == 0) (get_or_append_left text (0 ∷ rest) 0 k before)
        ∙ ne_eqb (get_or text k 0) 0 (All-get_or (λ b. b ≢ 0) text k 0 before whole)

    here : (get_or (text ++ 0 ∷ rest) (length text) 0 == 0) ≡ true
    here = ap (λ b. b == 0) (seam text 0 rest)

pub text-there : (items : List (List ℕ)) (item tail : List ℕ) → IsIn ([] ∷ items) item → All (λ b. b ≢ 0) item
    → text_at (flat_map as_text ([] ∷ items) ++ tail) (index_of as_text ([] ∷ items) item) ≡ Some item
unfolding text_at
text-there items [] tail is whole = refl
text-there items (b ∷ item) tail is whole =
    by (index_of as_text ([] ∷ items) (b ∷ item)) refl
  where
    late : 1 ≤ index_of as_text ([] ∷ items) (b ∷ item)
    late =
        let p = bytes_eq (b ∷ item) in
        omega (
          arith,
          sum_by-cons (λ other. length (as_text other)) [] (before_first p items),
          ap (sum_by (λ other. length (as_text other))) (before-no p [] items refl),
        )

    by : (n : ℕ) → index_of as_text ([] ∷ items) (b ∷ item) ≡ n → text_at (flat_map as_text ([] ∷ items) ++ tail) n ≡ Some (b ∷ item)
    by zero e = absurd (omega (arith, late, e))
    by (suc i) e =
        let at = at_index as_text ([] ∷ items) (b ∷ item) tail is in
        ap until_zero (ap (λ n. drop n (flat_map as_text ([] ∷ items) ++ tail)) (sym e) ∙ at.1 ∙ append_assoc (b ∷ item) (0 ∷ []) at.0)
        ∙ until (b ∷ item) at.0 whole

-- ---- GUIDs

sixteen : (items : List (List ℕ)) (n : ℕ) → All (λ guid. length guid ≡ 16) items → n ≤ length items → sum_by length (take n items) ≡ 16 * n
sixteen items zero are h = omega arith
sixteen [] (suc n) are h = absurd (omega (arith, h))
sixteen (guid ∷ items) (suc n) are h = sum_by-cons length guid (take n items)
    ∙ omega (
      arith,
      All-head (λ (guid : List ℕ). length guid ≡ 16) guid items are,
      sixteen items n (All-tail (λ (guid : List ℕ). length guid ≡ 16) guid items are) (omega (arith, h)),
    )

pub guid-there : (items : List (List ℕ)) (item : List ℕ) → IsIn items item → All (λ guid. length guid ≡ 16) items → length item ≡ 16
    → guid_at (flat_map (λ guid. guid) items) (1 + position_or_len (bytes_eq item) items) ≡ Some item
unfolding guid_at
guid-there items item is are long =
    let at = at_index (λ guid. guid) items item [] is in
    let n = position_or_len (bytes_eq item) items in
    let all = flat_map (λ guid. guid) items in
    let place : 16 * n ≡ index_of (λ guid. guid) items item = omega (
      arith,
      sixteen items n are (prefix_len-le-length (λ other. not (bytes_eq item other)) items),
    ) in
    let there_is : drop (16 * n) all ≡ item ++ at.0 = ap (drop (16 * n)) (sym (append-nil all)) ∙ ap (λ m. drop m (all ++ [])) place ∙ at.1 in
    let enough : 16 * n + 16 ≤ length all = omega (arith, length-drop (16 * n) all, ap length there_is, length-append item at.0, long) in
    ap (guid_at all) (one-add n) ∙ ap (λ b. if b then Some (take 16 (drop (16 * n) all)) else None) (le-leb (16 * n + 16) (length all) enough)
    ∙ ap Some (ap (take 16) there_is ∙ take_at item at.0 16 long)

pub written-read : WrittenItemsAreRead
written-read = record { text = text-there; blob = blob-there; guid = guid-there }
