use Rattle.std.proofs.{Common.{◌≡◌, ◌∷◌, List, sym, ap, subst, ◌∙◌, true, false}, lemmas.Result.{err_from_is_err_and}, lemmas.List.Elements.{All-head}}
use Rattle.sequence_points.specs.{declared.point.Point.{Point}, Ranges.{IsDocument}}
use Rattle.sequence_points_moved.{specs.MovedBlob.{moved_in}, specs.Writing.{coming}, proofs.Walk.{Progress, may_come, onward, refused, walked, stopped}}
use Rattle.sequence_points_moved.proofs.moving.points_into.Goals as goal
use Rattle.sequence_points_moved.proofs.moving.points_into.Goals.{else-in_one-via-then-in_one+else-point-first, else-in_one-via-else-in_one}

pub push-requires : goal.push-requires
push-requires g c =
    let o = g.G.OffsetImage.offsets c.args.image.now in
    let d = c.args.documents.now in
    may_come c.args.in_one c.args.first (c.args.first ∷ moved_in o d c.args.points) c.in-Some.point
    (moved_in o d c.points.points) c.points.written c.args.into.now c.points.into c.requires.written
    (subst (λ (next : List Point). Progress c.args.in_one c.args.first
    (c.args.first ∷ moved_in o d c.args.points) next c.points.written c.args.into.now c.points.into)
    (ap (λ n. coming n (moved_in o d c.points.points)) c.in-Some.is) c.points.invariant.progress)

pub returns-then-point-first-clause-walked : goal.returns-then-point-first-clause-walked
returns-then-point-first-clause-walked g c =
    let o = g.G.OffsetImage.offsets c.args.image.now in
    let d = c.args.documents.now in
    stopped c.args.in_one c.args.first (moved_in o d c.args.points) c.in-Some.point
    (moved_in o d c.points.points) c.points.written c.args.into.now c.points.into c.if-in_one.true (c.if-point-first.true)
    (subst (λ (next : List Point). Progress c.args.in_one c.args.first
    (c.args.first ∷ moved_in o d c.args.points) next c.points.written c.args.into.now c.points.into)
    (ap (λ n. coming n (moved_in o d c.points.points)) c.in-Some.is) c.points.invariant.progress)

pub returns-in_err-push-clause-step : goal.returns-in_err-push-clause-step
returns-in_err-push-clause-step g c =
    let o = g.G.OffsetImage.offsets c.args.image.now in
    let d = c.args.documents.now in
    let p = err_from_is_err_and c.from_residual.result c.from_residual.ensures.1 in
    rw (p.1, p.2)
    (refused c.args.in_one c.args.first (c.args.first ∷ moved_in o d c.args.points) c.in-Some.point
    (moved_in o d c.points.points) c.points.written c.args.into.now c.points.into c.in_err-push.field-0.0
    (subst (λ (next : List Point). Progress c.args.in_one c.args.first
    (c.args.first ∷ moved_in o d c.args.points) next c.points.written c.args.into.now c.points.into)
    (ap (λ n. coming n (moved_in o d c.points.points)) c.in-Some.is) c.points.invariant.progress) c.in_err-push.ensures.step)

pub points-preserved : goal.points-preserved
points-preserved g c =
    let o = g.G.OffsetImage.offsets c.args.image.now in
    let d = c.args.documents.now in
    let all : List Point = c.args.first ∷ moved_in o d c.args.points in
    let now : Progress c.args.in_one c.args.first all (c.in-Some.point ∷ moved_in o d c.points.points) c.points.written c.args.into.now c.points.into
    = subst (λ (next : List Point). Progress c.args.in_one c.args.first all next c.points.written c.args.into.now c.points.into)
    (ap (λ n. coming n (moved_in o d c.points.points)) c.in-Some.is) c.points.invariant.progress in
    record {
      progress = subst (λ (left : List Point). Progress c.args.in_one c.args.first all left c.push.new.self c.args.into.now c.push.new.into)
          c.next_moved-next.ensures.next
          (onward c.args.in_one c.args.first all c.in-Some.point
          (moved_in o d c.points.points) c.points.written c.push.new.self c.args.into.now c.points.into c.push.new.into now
          (λ e. elim c.else-in_one.branch [
            | else-in_one-via-then-in_one+else-point-first w ↦ w.if-point-first.false
            | else-in_one-via-else-in_one w ↦ absurd (let no : true ≡ false = sym e ∙ w.if-in_one.false in cc)
          ])
          c.in_ok-push.ensures.bytes c.in_ok-push.ensures.small c.in_ok-push.ensures.count c.in_ok-push.ensures.last c.in_ok-push.ensures.start);
      can = c.next_moved-next.ensures.points;
    }

pub returns-clause-walked : goal.returns-clause-walked
returns-clause-walked g c =
    let o = g.G.OffsetImage.offsets c.args.image.now in
    let d = c.args.documents.now in
    walked c.args.in_one c.args.first (moved_in o d c.args.points) c.points.written c.args.into.now c.points.into
    (All-head (λ (p : Point). IsDocument p.document) c.args.first (moved_in o d c.args.points) c.requires.written.documents)
    (subst (λ (next : List Point). Progress c.args.in_one c.args.first
    (c.args.first ∷ moved_in o d c.args.points) next c.points.written c.args.into.now c.points.into)
    (ap (λ n. coming n (moved_in o d c.points.points)) c.in_default.is) c.points.invariant.progress)
