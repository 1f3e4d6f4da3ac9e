-- Up to the greatest number, what is kept is what is kept up to the old size.
use Rattle.std.proofs.Common.{◌≡◌, ℕ, ◌<◌, ◌≤◌, Bool, true, false, List, [], ◌∷◌, refl, sym, arith}
use Rattle.ppdb_base.{specs.Offsets.{Offsets, every, gone, lined, Rise, Kept as Moved, kept_runs, is_kept_between, old_size}, proofs.Moved.{kept_is, keeps_between}}
use Rattle.ppdb_base.proofs.{Moved.{kept_below}, Between.{BetweenIs}}
use Rattle.sequence_points.specs.{declared.point.Point.{Point}, MovedPoints.{first_offset}}

-- two tests over one start agree where what lies below one end lies below the other
agree : (o : Offsets) → Rise o → (from a b : ℕ) → ((x y : ℕ) → Moved o x y → (x < a) → (x < b)) → ((x y : ℕ) → Moved o x y → (x < b) → (x < a))
    → is_kept_between o from a ≡ is_kept_between o from b
agree o rise from a b there back = of (is_kept_between o from a) (kept_is o rise from a)
  where
    none_below : ((x y : ℕ) → Moved o x y → from ≤ x → x < a → ⊥) → (t : Bool) → BetweenIs (kept_runs o) from b t → false ≡ t
    none_below none true found = absurd (none found.offset found.image found.moves found.after (back found.offset found.image found.moves found.before))
    none_below none false empty = refl

    of : (t : Bool) → BetweenIs (kept_runs o) from a t → t ≡ is_kept_between o from b
    of true found = sym (keeps_between o rise from b found.offset found.image found.moves found.after (there found.offset found.image found.moves found.before))
    of false none = none_below none (is_kept_between o from b) (kept_is o rise from b)

pub to_the_end : (o : Offsets) (from : ℕ) → Rise o → old_size o ≤ 4294967295 → is_kept_between o from 4294967295 ≡ is_kept_between o from (old_size o)
to_the_end every from rise le = refl
to_the_end gone from rise le = refl
to_the_end (lined runs old new) from rise le =
    agree (lined runs old new) rise from 4294967295 old (λ x y kept less. kept_below runs old new rise x y kept) (λ x y kept less. omega arith)

-- the same up to the next point, if there is one
pub to_the_next : (o : Offsets) (from : ℕ) (ps : List Point) → Rise o → old_size o ≤ 4294967295
    → is_kept_between o from (first_offset 4294967295 ps) ≡ is_kept_between o from (first_offset (old_size o) ps)
to_the_next o from [] rise le = to_the_end o from rise le
to_the_next o from (p ∷ ps) rise le = refl
