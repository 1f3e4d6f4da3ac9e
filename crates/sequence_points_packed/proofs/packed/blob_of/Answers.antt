use Rattle.std.{proofs.Common.{◌≡◌, ◌<◌, ◌++◌, ℕ, List, length, refl, sym, ap, subst, ◌∙◌, arith}, specs.Prelude.{◌^◌}}
use Rattle.sequence_points.specs.Written.{points_blob}
use Rattle.sequence_points_packed.{specs.Packed.{IsPacked, points_in}, proofs.Spelled.{few, is_packed, seen_as}}
use Rattle.sequence_points_packed.proofs.packed.blob_of.Goals as goal

pub overflow_cast-result : goal.overflow_cast-result
overflow_cast-result c =
    let short = few c.args.points.now (c.requires (c.if-not-have_offsets.ensures.0 refl)) in
    omega (arith, short)

pub returns-clause-kept : goal.returns-clause-kept
returns-clause-kept c =
    let points = c.args.points.now in
    let bytes = c.in_ok-copied.field-0 in
    let held : bytes ≡ c.points_into.new.into = c.in_ok-copied.ensures ∙ c.as_slice.ensures in
    let written = c.in-Ok.ensures.written ∙ ap (λ (b : List ℕ). b ++ points_blob 0 points) c.clear.ensures in
    let len = c.len.ensures in
    let most = c.if-len.false in
    let same : length bytes ≡ length c.points_into.new.into = ap (λ (b : List ℕ). length b) held in
    let short : length bytes < 2 ^ 32 = omega (arith, len, most, same) in
    subst (λ (column : ℕ). IsPacked column (length points) bytes) (sym c.single_document.ensures.value)
    (is_packed points bytes (c.requires (c.if-not-have_offsets.ensures.0 refl)) c.in-Ok.ensures.steps (held ∙ written) short)

pub returns-clause-points : goal.returns-clause-points
returns-clause-points c =
    let points = c.args.points.now in
    let bytes = c.in_ok-copied.field-0 in
    let held : bytes ≡ c.points_into.new.into = c.in_ok-copied.ensures ∙ c.as_slice.ensures in
    let written = c.in-Ok.ensures.written ∙ ap (λ (b : List ℕ). b ++ points_blob 0 points) c.clear.ensures in
    ap (λ (column : ℕ). points_in column bytes) c.single_document.ensures.value
    ∙ seen_as points bytes (c.requires (c.if-not-have_offsets.ensures.0 refl)) c.in-Ok.ensures.steps (held ∙ written)
