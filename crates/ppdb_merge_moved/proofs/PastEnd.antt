-- Above the old size no offset moves.
use Rattle.std.{proofs.Common.{◌≡◌, ℕ, ◌<◌, Option, Some, None, refl, arith}, specs.Prelude.{unwrap_or}}
use Rattle.ppdb_base.{specs.Offsets.{Offsets, Rise, Stops, stop_runs, next_image, moved}, proofs.Stops.{next_is, NextIs}}

pub past_end : (o : Offsets) → Rise o → (x : ℕ) → ((stop image : ℕ) → Stops o stop image → stop < x) → moved o x ≡ 0
past_end o rise x none = of (next_image o x) (next_is 0 0 (stop_runs o) rise x)
  where
    of : (r : Option ℕ) → NextIs (stop_runs o) x r → unwrap_or r 0 ≡ 0
    of None n = refl
    of (Some y) next = absurd (omega (arith, none next.stop y next.stops, next.after))
