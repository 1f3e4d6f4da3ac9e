use Rattle.std.proofs.{Common.{◌∷◌, subst}, lemmas.List.Elements.{All-head}}
use Rattle.sequence_points.specs.{declared.point.Point.{Point}, Ranges.{IsDocument}}
use Rattle.sequence_points_moved.{specs.MovedBlob.{moved_in}, specs.Writing.{IsWalked}, proofs.Blobs.{blob_is}, proofs.Movable.{writable_head}}
use Rattle.sequence_points_moved.proofs.moving.begin_blob.Goals as goal

pub header_into-requires-clause-document : goal.header_into-requires-clause-document
header_into-requires-clause-document g c =
    let o = g.G.OffsetImage.offsets c.args.image.now in
    let d = c.args.documents.now in
    let can = writable_head (moved_in o d c.args.points) c.in-Some.first (moved_in o d c.next_moved.new.points) c.in-Some.ensures.next c.requires.written in
    (All-head (λ (p : Point). IsDocument p.document) c.in-Some.first (moved_in o d c.next_moved.new.points) can.documents).1

pub returns-then-branch-clause-blob : goal.returns-then-branch-clause-blob
returns-then-branch-clause-blob g c =
    let o = g.G.OffsetImage.offsets c.args.image.now in
    let d = c.args.documents.now in
    blob_is c.args.in_one c.args.signature (moved_in o d c.args.points) c.in-Some.first
    (moved_in o d c.next_moved.new.points) c.args.into.now c.header_into.new.into c.points_into.new.into c.column_of.result
    c.in-Some.ensures.next
    c.in-Ok.ensures.ok
    (subst (IsWalked c.args.in_one
    (c.in-Some.first ∷ moved_in o d c.next_moved.new.points) c.header_into.new.into c.points_into.new.into) c.if-branch.true
    c.in_ok-points_into.ensures.walked)
    c.requires.several c.column_of.ensures
