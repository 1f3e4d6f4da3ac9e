-- What the search over rising runs finds is what the relations say.
use Rattle.std.proofs.Common.{◌≡◌, ℕ, Option, Some, None, ap, arith, subst}
use Rattle.ppdb_base.{specs.Offsets.{Offsets, Rise, IsNextImage, KeepsBetween, next_image, stop_runs, Moves}, proofs.Moved.{is_kept, keeps_between, moved_kept}}
use Rattle.ppdb_base.proofs.Stops.{is_next, moves_same, next_is, NextIs}
use Rattle.ppdb_maps_laws.specs.Searched.{OffsetsAreMoved}

-- the image of the least stop is the one that the search finds
is_found : (o : Offsets) (x y : ℕ) → Rise o → IsNextImage o x y → next_image o x ≡ Some y
is_found o x y rise next = of (next_image o x) (next_is 0 0 (stop_runs o) rise x)
  where
    of : (found : Option ℕ) → NextIs (stop_runs o) x found → found ≡ Some y
    of None none = absurd (omega (arith, none next.stop y next.stops, next.after))
    of (Some z) other =
        let same : other.stop ≡ next.stop = omega (arith, other.least next.stop y next.stops next.after, next.least other.stop z other.stops other.after) in
        ap Some (moves_same 0 0 (stop_runs o) rise next.stop z y (subst (λ s. Moves (stop_runs o) s z) same other.stops) next.stops)

pub offsets_are_moved : OffsetsAreMoved
offsets_are_moved = record {
  next = λ o x y rise. (is_next 0 0 (stop_runs o) rise x y, is_found o x y rise);
  kept = λ o x y rise. moved_kept o rise x y;
  between = λ o from to rise. (
    is_kept o rise from to,
    λ (keeps : KeepsBetween o from to). keeps_between o rise from to keeps.offset keeps.image keeps.moves keeps.after keeps.before,
  );
}
