use Rattle.std.{proofs.Common.{◌≡◌, List, Ok, refl, sym, ap, subst, ◌∙◌, None}, specs.Prelude.{All}}
use Rattle.ppdb_maps.specs.Says.{offsets_of}
use Rattle.sequence_points.specs.declared.point.Point.{Point}
use Rattle.sequence_points_moved.{specs.Conditions.{IsMovable, Seen}, proofs.Readings.{same_points}, proofs.SeenPoints.{seen_next, seen_all}}
use Rattle.blob_grammar.specs.Reader.{answer}
use Rattle.tests_maps.proofs.moving.are_movable.Goals as goal

pub points-preserved : goal.points-preserved
points-preserved c = record {
  seen = subst (λ (items : List Point). Seen (IsMovable (offsets_of c.args.map.now.says)) c.in-Ok.cursor.left.items items)
      (sym (ap (λ s. s.left.items) c.next.ensures.left))
      (seen_next (IsMovable (offsets_of c.args.map.now.says)) c.in-Ok.cursor.left.items c.in-Ok-Some.point c.points.cursor.left
      (subst (λ o. answer c.points.cursor.left ≡ Ok o) c.in-Ok-Some.field-0-is (sym c.in-Ok-Some.ensures.answer)) c.points.invariant.seen
      (c.if-not-is_movable.ensures refl));
  fault = ap (λ s. s.left.fault) c.next.ensures.left ∙ c.points.invariant.fault;
}

pub returns-in-Ok-None-clause-points : goal.returns-in-Ok-None-clause-points
returns-in-Ok-None-clause-points c = λ is signature points reads.
    let same = same_points c.args.column c.args.limits c.args.blob.now c.in-Ok.cursor.signature signature c.in-Ok.cursor.left.items points
    c.in-Ok.cursor.left.fault None c.in-Ok.ensures.ok reads in
    subst (All (IsMovable (offsets_of c.args.map.now.says))) same.0
    (seen_all (IsMovable (offsets_of c.args.map.now.says)) c.in-Ok.cursor.left.items c.points.cursor.left
    (subst (λ o. answer c.points.cursor.left ≡ Ok o) c.in-Ok-None.field-0-is (sym c.in-Ok-None.ensures.answer)) c.points.invariant.seen)
