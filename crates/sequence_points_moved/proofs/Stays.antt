-- The next point stays or goes.
use Rattle.std.{proofs.Common.{◌≡◌, ℕ, ◌<◌, ◌≤◌, Bool, true, false, List, ◌∷◌, Option, Some, None, refl, sym, ap, ◌∙◌, arith}, specs.Prelude.{cond, map}}
use Rattle.ppdb_base.{specs.Offsets.{Offsets, Rise, moved, is_kept_between, old_size}, proofs.Moved.{moved_is}}
use Rattle.sequence_points.specs.{declared.point.Point.{Point}, MovedPoints.{first_offset, moved_points}}
use Rattle.sequence_points_moved.{specs.MovedBlob.{in_new_document, moved_in}, specs.Conditions.{HasImage}, specs.Writing.{image_until}, proofs.Kept.{to_the_next}}

-- the point at its image and in its new document
abbrev pub at_image : Offsets → List ℕ → Point → Point
at_image o documents p = in_new_document documents (record p { offset = moved o p.offset })

-- the image of an offset is where it moves
pub image_small : (o : Offsets) → Rise o → (x : ℕ) → HasImage o x → moved o x < 536870912
image_small o rise x h = omega (arith, moved_is o rise x h.image h.next, h.small)

-- the point at this image, and those that stay after it; these alone where it goes
abbrev first_at : Offsets → List ℕ → Point → List Point → Option ℕ → List Point
first_at o documents p ps None = moved_in o documents ps
first_at o documents p ps (Some image) = in_new_document documents (record p { offset = image }) ∷ moved_in o documents ps

by_test : (o : Offsets) (documents : List ℕ) (p : Point) (ps : List Point) (b : Bool)
    → map (in_new_document documents) (cond b (record p { offset = moved o p.offset } ∷ moved_points o ps) (moved_points o ps))
    ≡ first_at o documents p ps (cond b (Some (moved o p.offset)) None)
by_test o documents p ps true = refl
by_test o documents p ps false = refl

-- the first point stays where it moves to, up to the next point or the greatest number
pub first_until : (o : Offsets) → Rise o → old_size o ≤ 4294967295 → (documents : List ℕ) (all : List Point) (p : Point) (ps : List Point) (end : ℕ)
    (r : Option ℕ) → all ≡ p ∷ ps → end ≡ first_offset 4294967295 ps → r ≡ image_until o p.offset end
    → moved_in o documents all ≡ first_at o documents p ps r
first_until o rise le documents all p ps end r cut ends is =
    ap (moved_in o documents) cut ∙ by_test o documents p ps (is_kept_between o p.offset (first_offset (old_size o) ps))
    ∙ ap (λ b. first_at o documents p ps (cond b (Some (moved o p.offset)) None)) (sym (to_the_next o p.offset ps rise le))
    ∙ ap (λ n. first_at o documents p ps (image_until o p.offset n)) (sym ends) ∙ ap (first_at o documents p ps) (sym is)

pub stays : (o : Offsets) → Rise o → old_size o ≤ 4294967295
    → (documents : List ℕ) (all : List Point) (p : Point) (ps : List Point) (end : ℕ) (r : Option ℕ) (image : ℕ) (q : Point)
    → all ≡ p ∷ ps → end ≡ first_offset 4294967295 ps → r ≡ image_until o p.offset end → r ≡ Some image
    → q ≡ in_new_document documents (record p { offset = image })
    → moved_in o documents all ≡ q ∷ moved_in o documents ps
stays o rise le documents all p ps end r image q cut ends is kept at =
    first_until o rise le documents all p ps end r cut ends is ∙ ap (first_at o documents p ps) kept ∙ ap (λ x. x ∷ moved_in o documents ps) (sym at)

pub goes : (o : Offsets) → Rise o → old_size o ≤ 4294967295 → (documents : List ℕ) (all : List Point) (p : Point) (ps : List Point) (end : ℕ)
    (r : Option ℕ) → all ≡ p ∷ ps → end ≡ first_offset 4294967295 ps → r ≡ image_until o p.offset end → r ≡ None
    → moved_in o documents all ≡ moved_in o documents ps
goes o rise le documents all p ps end r cut ends is out =
    first_until o rise le documents all p ps end r cut ends is ∙ ap (first_at o documents p ps) out
