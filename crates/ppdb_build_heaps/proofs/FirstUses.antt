-- The distinct items in order of first use, one use after another.
use Rattle.std.proofs.Common.{◌≡◌, ℕ, Bool, true, false, cond, not, List, [], ◌∷◌, ◌++◌, ◌||◌, map, filter, fold, refl, sym, ap, ◌∙◌, true≢false, append_assoc}
use Rattle.std.proofs.{Common.{bytes_eq, if◌then◌else◌, flat_map}, lemmas.List.{append-nil}, lemmas.List.Elements.{filter-append}}
use Rattle.std.specs.{List.{list_any}, Cmp.Lexicographic.{bytes_decides}}
use Rattle.ppdb_build_heaps.{specs.Items.{first_uses, with_use}, specs.Uses.{Piece, blob_bytes, blobs_after, heap_of, with_held}, proofs.Items.{itself}}
use Rattle.ppdb_build_heaps.proofs.Stable.{AreReady, spelled-stable, after-adds, all-ready}

abbrev pub others : List ℕ → List (List ℕ) → List (List ℕ)
others item items = filter (λ other. not (bytes_eq item other)) items

-- another item is among the others where it is among all
pub any-others : (item used : List ℕ) (items : List (List ℕ)) → bytes_eq used item ≡ false
    → list_any (bytes_eq used) (others item items) ≡ list_any (bytes_eq used) items
any-others item used [] apart = refl
any-others item used (y ∷ items) apart = by (bytes_eq item y) refl (any-others item used items apart)
  where
    by : (b : Bool) → bytes_eq item y ≡ b → list_any (bytes_eq used) (others item items) ≡ list_any (bytes_eq used) items
        → list_any (bytes_eq used) (cond (not b) (y ∷ others item items) (others item items)) ≡ list_any (bytes_eq used) (y ∷ items)
    by true e rest = rest ∙ sym (ap (λ b. b || list_any (bytes_eq used) items) (ap (bytes_eq used) (sym ((bytes_decides item y).0 e)) ∙ apart))
    by false e rest = ap (λ r. bytes_eq used y || r) rest

-- one more use
pub first_uses-push : (uses : List (List ℕ)) (used : List ℕ) → first_uses (uses ++ used ∷ []) ≡ with_use (first_uses uses) used
unfolding first_uses
first_uses-push [] used = refl
first_uses-push (item ∷ uses) used =
    ap (λ items. item ∷ others item items) (first_uses-push uses used)
    ∙ by (bytes_eq used item) (list_any (bytes_eq used) (first_uses uses)) refl refl
  where
    last : (b : Bool) → bytes_eq item used ≡ b → others item (first_uses uses ++ used ∷ []) ≡ others item (first_uses uses) ++ cond (not b) (used ∷ []) []
    last b e = filter-append (λ other. not (bytes_eq item other)) (first_uses uses) (used ∷ [])
        ∙ ap (λ t. others item (first_uses uses) ++ cond (not t) (used ∷ []) []) e

    swapped : bytes_eq used item ≡ false → bytes_eq item used ≡ false
    swapped apart = kind (bytes_eq item used) refl
      where
        kind : (b : Bool) → bytes_eq item used ≡ b → b ≡ false
        kind true e = absurd (true≢false (sym (itself used) ∙ ap (bytes_eq used) (sym ((bytes_decides item used).0 e)) ∙ apart))
        kind false e = refl

    stays : (b : Bool) → (bytes_eq used item || list_any (bytes_eq used) (others item (first_uses uses))) ≡ b
        → with_use (item ∷ others item (first_uses uses)) used ≡ (if b then item ∷ others item (first_uses uses) else item ∷ others item
        (first_uses uses) ++ used ∷ [])
    stays b e = ap (λ t. if t then item ∷ others item (first_uses uses) else item ∷ others item (first_uses uses) ++ used ∷ []) e

    by : (same there : Bool) → bytes_eq used item ≡ same → list_any (bytes_eq used) (first_uses uses) ≡ there
        → item ∷ others item (if there then first_uses uses else first_uses uses ++ used ∷ []) ≡ with_use (item ∷ others item (first_uses uses)) used
    by true true e is = sym (stays true (ap (λ b. b || list_any (bytes_eq used) (others item (first_uses uses))) e))
    by true false e is =
        ap (λ items. item ∷ items) (last true (ap (bytes_eq item) ((bytes_decides used item).0 e) ∙ itself item) ∙ append-nil (others item (first_uses uses)))
        ∙ sym (stays true (ap (λ b. b || list_any (bytes_eq used) (others item (first_uses uses))) e))
    by false true e is = sym (stays true (ap (λ b. b || list_any (bytes_eq used) (others item (first_uses uses))) e
        ∙ any-others item used (first_uses uses) e ∙ is))
    by false false e is =
        ap (λ items. item ∷ items) (last false (swapped e))
        ∙ sym (stays false (ap (λ b. b || list_any (bytes_eq used) (others item (first_uses uses))) e ∙ any-others item used (first_uses uses) e ∙ is))

-- some more uses
pub fold-first : (uses more : List (List ℕ)) → fold with_use (first_uses uses) more ≡ first_uses (uses ++ more)
fold-first uses [] = ap first_uses (sym (append-nil uses))
fold-first uses (used ∷ more) =
    ap (λ items. fold with_use items more) (sym (first_uses-push uses used))
    ∙ fold-first (uses ++ used ∷ []) more
    ∙ ap first_uses (append_assoc uses (used ∷ []) more)

-- what the whole heap spells is what was spelled when it was used
spelled-then : (items : List (List ℕ)) (used : List Piece) (uses : List (List Piece)) → AreReady items (used ∷ uses)
    → blob_bytes (blobs_after items (used ∷ uses)) used ≡ blob_bytes items used
unfolding blobs_after
spelled-then items used uses ready =
    let adds = after-adds items (used ∷ uses) in
    ap (λ now. blob_bytes now used) adds.1 ∙ spelled-stable items adds.0 used ready.0

settled : (items : List (List ℕ)) (uses : List (List Piece)) (final : List (List ℕ)) → final ≡ blobs_after items uses → AreReady items uses
    → blobs_after items uses ≡ fold with_use items (map (blob_bytes final) uses)
unfolding blobs_after
settled items [] final is ready = refl
settled items (used ∷ uses) final is ready =
    let early : blob_bytes final used ≡ blob_bytes items used = ap (λ now. blob_bytes now used) is ∙ spelled-then items used uses ready in
    settled (with_use items (blob_bytes items used)) uses final is ready.1
    ∙ ap (λ bytes. fold with_use (with_use items bytes) (map (blob_bytes final) uses)) (sym early)

-- the heap of blobs is the distinct blobs that are used, as the heap spells them, in order of first use
pub heaps-are : (blobs : List (List Piece))
    → heap_of (flat_map with_held blobs) ≡ first_uses ([] ∷ map (blob_bytes (heap_of (flat_map with_held blobs))) (flat_map with_held blobs))
unfolding first_uses
heaps-are blobs =
    let uses = flat_map with_held blobs in
    settled ([] ∷ []) uses (heap_of uses) refl (all-ready ([] ∷ []) blobs)
    ∙ fold-first ([] ∷ []) (map (blob_bytes (heap_of uses)) uses)
