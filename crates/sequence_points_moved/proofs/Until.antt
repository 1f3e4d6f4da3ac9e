-- Where a point moves that holds up to some offset.
use Rattle.std.{proofs.Common.{◌≡◌, ℕ, ◌<◌, Bool, true, false, List, [], ◌∷◌, ◌++◌, Option, Some, None, sym, ap, ◌∙◌, arith, inl, inr}, specs.Prelude.{IsTrue, ◌↔◌}}
use Rattle.std.specs.Prelude.{IfSome, IfNone, cond}
use Rattle.ppdb_base.specs.{declared.offsets.Run.{Run}, Offsets.{Offsets, every, gone, lined, Rise, Kept as Moved, Stops, Moves, IsNextImage, KeepsBetween, moved}}
use Rattle.ppdb_base.{specs.Offsets.{old_size}, proofs.Moved.{kept_test, kept_stops, keeps_between, moved_is, moved_kept}}
use Rattle.sequence_points_moved.specs.Writing.{image_until}

run_or_end : (runs : List Run) (old new x y : ℕ) → Moves (runs ++ record { old = old; new = new; length = 1 } ∷ []) x y → x < old → Moves runs x y
run_or_end [] old new x y (inl t) less = absurd (omega (arith, t.old))
run_or_end [] old new x y (inr m) less = absurd m
run_or_end (r ∷ rs) old new x y (inl t) less = inl t
run_or_end (r ∷ rs) old new x y (inr m) less = inr (run_or_end rs old new x y m less)

-- a stop below the old size is kept
pub stop_is_kept : (o : Offsets) (x y : ℕ) → Stops o x y → x < old_size o → Moved o x y
stop_is_kept every x y stops less = stops
stop_is_kept gone x y stops less = stops
stop_is_kept (lined runs old new) x y stops less = run_or_end runs old new x y stops less

-- a point at a stop below the old size moves to its image
pub at_stop : (o : Offsets) → Rise o → (x y end : ℕ) → Stops o x y → x < old_size o → x < end → Some y ≡ image_until o x end
at_stop o rise x y end stops below holds =
    let kept = stop_is_kept o x y stops below in
    sym (ap (λ b. cond b (Some (moved o x)) None) (keeps_between o rise x end x y kept (omega arith) holds) ∙ ap Some (moved_kept o rise x y kept))

-- where an offset is kept that the point holds at, it moves to the next image
pub at_next : (o : Offsets) → Rise o → (x end : ℕ) (b : Bool) (r : Option ℕ) → (IsTrue b ↔ KeepsBetween o x end) → b ≡ true
    → IfSome r (IsNextImage o x) → IfNone r ((stop image : ℕ) → Stops o stop image → stop < x) → r ≡ image_until o x end
at_next o rise x end b None says kept some none =
    let found = says.0 kept in
    absurd (omega (arith, none found.offset found.image (kept_stops o found.offset found.image found.moves), found.after))
at_next o rise x end b (Some y) says kept next none =
    sym (ap (λ t. cond t (Some (moved o x)) None) (kept_test o rise x end b says ∙ kept) ∙ ap Some (moved_is o rise x y next))

-- where there is none, it goes
pub at_none : (o : Offsets) → Rise o → (x end : ℕ) (b : Bool) → (IsTrue b ↔ KeepsBetween o x end) → b ≡ false → None ≡ image_until o x end
at_none o rise x end b says out = sym (ap (λ t. cond t (Some (moved o x)) None) (kept_test o rise x end b says ∙ out))
