use Rattle.std.proofs.{Common.{ℕ, ◌≡◌, ◌<◌, inl, inr, subst, arith}, lemmas.Bool.{cases_lt}}
use Rattle.ppdb_base.{specs.Offsets.{Offsets, Kept, Rise, stop_runs}, proofs.Stops.{moves_rise, moves_same}, proofs.Moved.{kept_stops}}
use Rattle.ppdb_maps.proofs.laws.kept_offsets_rise.Goals as goal

below : (o : Offsets) → Rise o → (x y u v : ℕ) → Kept o x y → Kept o u v → y < v → x < u
below o rise x y u v a b lt = elim (cases_lt x u) [
  | inl less ↦ less
  | inr le ↦ elim (cases_lt u x) [
    | inl more ↦ absurd (let h = moves_rise 0 0 (stop_runs o) rise u v x y (kept_stops o u v b) (kept_stops o x y a) more in omega (arith, h, lt))
    | inr ge ↦ absurd (let same : x ≡ u = omega (arith, le, ge) in
        let h : y ≡ v = moves_same 0 0 (stop_runs o) rise u y v (kept_stops o u y (subst (λ k. Kept o k y) same a)) (kept_stops o u v b) in omega
        (arith, h, lt))
  ]
]

pub returns : goal.returns
returns g c = λ x y u v a b.
    let rise = g.met.M.OffsetImage.rise c.args.map.now in (
      (λ lt. moves_rise 0 0 (stop_runs (g.M.OffsetImage.offsets c.args.map.now)) rise x y u v (kept_stops _ x y a) (kept_stops _ u v b) lt),
      (λ lt. below (g.M.OffsetImage.offsets c.args.map.now) rise x y u v a b lt),
    )
