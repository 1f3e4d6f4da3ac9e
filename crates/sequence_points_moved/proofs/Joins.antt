-- Bytes and steps of points that come after others, and what holds of lists that are cut.
use Rattle.std.{proofs.Common.{◌≡◌, ◌+◌, List, [], ◌∷◌, ◌++◌, length, sym, ap, ◌∙◌, append_assoc, append-nil}, specs.Prelude.{All}, specs.Option.{option_map}}
use Rattle.std.{specs.Option.{option_to_list}, proofs.lemmas.List.Elements.{All-head, All-tail}}
use Rattle.sequence_points.specs.{declared.point.Point.{Point}, Written.{last_of, last_start, large_step, large_steps, numbered, bytes_after, points_bytes}}

pub steps-append : (before xs ys : List Point) → large_steps before (xs ++ ys) ≡ large_steps before xs ++ large_steps (before ++ xs) ys
steps-append before [] ys = ap (λ b. large_steps b ys) (sym (append-nil before))
steps-append before (x ∷ xs) ys =
    let one = option_to_list (option_map (numbered (length before + 1)) (large_step (last_start before) x.span)) in
    ap (λ more. one ++ more)
    (steps-append (before ++ x ∷ []) xs ys ∙ ap (λ b. large_steps (before ++ x ∷ []) xs ++ large_steps b ys) (append_assoc before (x ∷ []) xs))
    ∙ sym (append_assoc one (large_steps (before ++ x ∷ []) xs) (large_steps (before ++ x ∷ xs) ys))

pub bytes-append : (before xs ys : List Point) → points_bytes before (xs ++ ys) ≡ points_bytes before xs ++ points_bytes (before ++ xs) ys
bytes-append before [] ys = ap (λ b. points_bytes b ys) (sym (append-nil before))
bytes-append before (x ∷ xs) ys =
    let one = bytes_after (last_of before) (last_start before) x in
    ap (λ more. one ++ more)
    (bytes-append (before ++ x ∷ []) xs ys ∙ ap (λ b. points_bytes (before ++ x ∷ []) xs ++ points_bytes b ys) (append_assoc before (x ∷ []) xs))
    ∙ sym (append_assoc one (points_bytes (before ++ x ∷ []) xs) (points_bytes (before ++ x ∷ xs) ys))

-- what holds of all holds of one between two parts
pub at_cut : {X : Type 0} (P : X → Type 0) (before : List X) (x : X) (after : List X) → All P (before ++ x ∷ after) → P x
at_cut P [] x after h = All-head P x after h
at_cut P (y ∷ ys) x after h = at_cut P ys x after (All-tail P y (ys ++ x ∷ after) h)
