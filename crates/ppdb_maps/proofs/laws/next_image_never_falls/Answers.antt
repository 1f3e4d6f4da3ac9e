use Rattle.std.proofs.{Common.{ℕ, ◌≡◌, ◌≤◌, inl, inr, subst, arith}, lemmas.Bool.{cases_lt}}
use Rattle.ppdb_base.{specs.Offsets.{Offsets, IsNextImage, Moves, Rise, stop_runs}, proofs.Stops.{moves_rise, moves_same}}
use Rattle.ppdb_maps.proofs.laws.next_image_never_falls.Goals as goal

never_falls : (o : Offsets) → Rise o → (x y u v : ℕ) → IsNextImage o x y → IsNextImage o u v → x ≤ u → y ≤ v
never_falls o rise x y u v a b le =
    let after = b.after in
    let least : a.stop ≤ b.stop = a.least b.stop v b.stops (omega (arith, after, le)) in
    elim (cases_lt a.stop b.stop) [
      | inl less ↦ let h = moves_rise 0 0 (stop_runs o) rise a.stop y b.stop v a.stops b.stops less in omega (arith, h)
      | inr ge ↦ let same : a.stop ≡ b.stop = omega (arith, least, ge) in
          let h : y ≡ v = moves_same 0 0 (stop_runs o) rise b.stop y v (subst (λ k. Moves (stop_runs o) k y) same a.stops) b.stops in omega (arith, h)
    ]

pub returns : goal.returns
returns g c = λ x y u v a b le. never_falls (g.M.OffsetImage.offsets c.args.map.now) (g.met.M.OffsetImage.rise c.args.map.now) x y u v a b le
