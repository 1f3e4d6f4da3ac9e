-- The parts of a list, one after another.
use Rattle.std.proofs.{Common.{◌≡◌, ℕ, ◌+◌, ◌<◌, List, [], ◌∷◌, ◌++◌, length, take, map, get_or, ap, ◌∙◌, arith}, lemmas.List.{take_more, length-map, get_or-map}}

pub part-next : {R X : Type 0} (now : R → X) (parts : List R) (i : ℕ) (d : R) → i < length parts
    → take (i + 1) (map now parts) ≡ take i (map now parts) ++ now (get_or parts i d) ∷ []
part-next now parts i d h =
    take_more (map now parts) i (now d) (omega (arith, h, length-map parts now))
    ∙ ap (λ last. take i (map now parts) ++ last ∷ []) (get_or-map now parts i d (now d) h)
