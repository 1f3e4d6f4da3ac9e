-- What is known of a method that is there after both maps.
use Rattle.std.{proofs.Common.{ℕ, ◌≡◌, Bool, true, false, cond, Some, None, refl, sym, ap, ◌∙◌}, specs.Prelude.{is_some}, specs.Option.{option_and_then}}
use Rattle.ppdb_maps.specs.Map.{Map, row_within, slot_image}
use Rattle.map_compose.specs.{Composed.{has_image, composed_slot, of_image}, Composition.{Follows}, Says.{followed, slot_after}}

-- it follows
pub follows_image : (f s : Map) (method image : ℕ) → followed f s method ≡ Some image → Follows f s method image
follows_image f s method image is = of (has_image f s method) refl is
  where
    of : (b : Bool) → has_image f s method ≡ b → cond b (row_within f 0x06 method) None ≡ Some image → Follows f s method image
    of false there is = absurd (cc)
    of true there is = record { first = is; second = sym (ap (λ o. is_some (option_and_then (row_within s 0x06) o)) is) ∙ there }

pub slot_follows : (f s : Map) (method image old : ℕ) → followed f s method ≡ Some image → composed_slot f s method old ≡ slot_after f s method image old
slot_follows f s method image old is =
    ap (λ o. option_and_then (λ slot. of_image None (λ i. slot_image s i slot) o) (slot_image f method old)) (follows_image f s method image is).first
