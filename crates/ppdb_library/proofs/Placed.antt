-- Items that are put one after the other into the places of a list.
use Rattle.std.proofs.{Common.{ℕ, ◌≡◌, ◌<◌, ◌+◌, List, [], ◌∷◌, ◌++◌, map, length, take, drop, get_or, sym, ◌∙◌, ap, add-one, append_assoc, arith}, Math.ListN.{set}}
use Rattle.std.proofs.{Math.Seq.{drop-cons, length-take-le, set_at, take-suc}, lemmas.List.{length-map, map-append}}

pub put_more : {X Y : Type 0} (f : X → Y) (xs : List X) (old ys : List Y) (i : ℕ) (d : X) (e y : Y) → i < length xs → i < length old
    → ys ≡ map f (take i xs) ++ drop i old → y ≡ f (get_or xs i d) → set ys i y ≡ map f (take (i + 1) xs) ++ drop (i + 1) old
put_more f xs old ys i d e y below room is same =
    let prefix = map f (take i xs) in
    let long : length prefix ≡ i = length-map (take i xs) f ∙ length-take-le i xs (omega arith) in
    let here : ys ≡ prefix ++ get_or old i e ∷ drop (i + 1) old = is ∙ ap (λ rest. prefix ++ rest) (rw add-one (drop-cons old i e room)) in
    let more : map f (take (i + 1) xs) ≡ prefix ++ y ∷ [] =
    ap (map f) (rw add-one (take-suc xs i d below)) ∙ (map-append f (take i xs) (get_or xs i d ∷ []) ∙ ap (λ z. prefix ++ z ∷ []) (sym same)) in
    ap (λ l. set l i y) here ∙ (set_at prefix (get_or old i e) (drop (i + 1) old) y i long
    ∙ (sym (append_assoc prefix (y ∷ []) (drop (i + 1) old)) ∙ ap (λ l. l ++ drop (i + 1) old) (sym more)))
