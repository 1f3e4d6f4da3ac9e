-- A map without a `slots` line: each slot is its own image, and nothing is reported of slots.
use Rattle.std.proofs.Common.{◌≡◌, ℕ, ◌+◌, ◌||◌, ◌++◌, Bool, true, false, cond, List, [], ◌∷◌, Option, Some, None, slice_get, refl, ◌∙◌, ap, flat_map}
use Rattle.std.specs.{Prelude.{All, is_some, nat_eq}, List.{cons_option, enumerate_from, filter_map, list_any}, Option.{option_map}}
use Rattle.std.proofs.lemmas.List.Elements.{All-cons, All-nil}
use Rattle.ppdb_base.specs.declared.merge_error.{MergeError.{MergeError}, MergeError.TheVariants.{SlotUnmapped}}
use Rattle.ppdb_maps.specs.Map.{Map, is_dropped, slot_image, slot_line}
use Rattle.ppdb_values.specs.declared.file.FileValue.{FileValue}
use Rattle.ppdb_merge_fits.specs.{declared.used.MethodSlot.{MethodSlot}, declared.used.UsedSlot.{UsedSlot}, Slots.{if_slot_unmapped, slot_twice, slots_twice}}
use Rattle.ppdb_merge_fits.{specs.Slots.{slots_unmapped, used, variable_slots}, proofs.Kept.{none_twice_once}}

-- a list without a first item is empty
pub no_line : {X : Type 0} (lines : List X) (first : Option X) → first ≡ slice_get lines 0 → is_some first ≡ false → lines ≡ []
no_line [] first is none = refl
no_line (x ∷ xs) None is none = absurd cc
no_line (x ∷ xs) (Some y) is none = absurd cc

-- the same of what is seen of the first
pub no_seen_line : {X Y : Type 0} (f : X → Y) (lines : List X) (first : Option Y) → first ≡ option_map f (slice_get lines 0) → is_some first ≡ false
    → lines ≡ []
no_seen_line f [] first is none = refl
no_seen_line f (x ∷ xs) None is none = absurd cc
no_seen_line f (x ∷ xs) (Some y) is none = absurd cc

module _ (m : Map) (none : m.slotted ≡ []) where
  own_image : (method slot : ℕ) → slot_image m method slot ≡ Some slot
  own_image method slot = ap (λ (lines : List ℕ). cond (list_any (nat_eq method) lines) (slot_line m method slot) (Some slot)) none

  unmapped_none : (n : ℕ) (slots : List MethodSlot) → flat_map (if_slot_unmapped m) (enumerate_from n slots) ≡ []
  unmapped_none n [] = refl
  unmapped_none n (x ∷ xs) =
      ap (λ (l : List MergeError). l ++ flat_map (if_slot_unmapped m) (enumerate_from (n + 1) xs)) (one (is_dropped m x.method)) ∙ unmapped_none (n + 1) xs
    where
      one : (dropped : Bool) → cond (dropped || is_some (slot_image m x.method x.slot)) [] (SlotUnmapped n x.slot ∷ []) ≡ []
      one true = refl
      one false = ap (λ (o : Option ℕ). cond (is_some o) [] (SlotUnmapped n x.slot ∷ [])) (own_image x.method x.slot)

  abbrev Keeps : UsedSlot → Type 0
  Keeps u = u.image ≡ u.slot

  -- a slot of a method that is dropped or not, with its image
  abbrev used_with : MethodSlot → Bool → Option ℕ → Option UsedSlot
  used_with x dropped image = cond dropped None (option_map (λ n. record { method = x.method; slot = x.slot; image = n }) image)

  used_keep : (slots : List MethodSlot) → All Keeps (filter_map (used m) slots)
  used_keep [] = All-nil Keeps
  used_keep (x ∷ xs) = one (is_dropped m x.method) (slot_image m x.method x.slot) (own_image x.method x.slot) (used_keep xs)
    where
      one : (dropped : Bool) (image : Option ℕ) → image ≡ Some x.slot → All Keeps (filter_map (used m) xs)
          → All Keeps (cons_option (used_with x dropped image) (filter_map (used m) xs))
      one true image own rest = rest
      one false None own rest = absurd cc
      one false (Some n) own rest = let same : n ≡ x.slot = cc in
          All-cons Keeps (record { method = x.method; slot = x.slot; image = n }) (filter_map (used m) xs) same rest

  pub nothing_of_slots : (value : FileValue) → slots_unmapped m value ++ slots_twice m (variable_slots value) ≡ []
  nothing_of_slots value =
      ap (λ (l : List MergeError). l ++ slots_twice m (variable_slots value)) (unmapped_none 1 (variable_slots value))
      ∙ none_twice_once (λ (u : UsedSlot). u.method) (λ u. u.slot) (λ u. u.image) slot_twice (filter_map (used m) (variable_slots value))
      (used_keep (variable_slots value))
