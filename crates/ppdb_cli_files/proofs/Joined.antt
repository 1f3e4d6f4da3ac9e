-- Calls one after another.
use Rattle.std.{proofs.Common.{◌≡◌, List, [], ◌∷◌, ◌++◌, Option, None, Some, refl, ap, subst, ◌∙◌, append_assoc}, specs.Prelude.{option_map}}
use Rattle.ppdb_cli_files.specs.{declared.place.Made.{Made}, Log.{Between}}

-- one call
pub one : (old new : Option (List Made)) (m : Made) → new ≡ option_map (λ calls. calls ++ m ∷ []) old → Between old new (λ calls. calls ≡ m ∷ [])
one None new m h = h
one (Some before) new m h = (m ∷ [], h, refl)

-- calls, and more calls after them
pub then : (old mid new : Option (List Made)) (P Q R : List Made → Type 0) → Between old mid P → Between mid new Q
    → ((xs ys : List Made) → P xs → Q ys → R (xs ++ ys)) → Between old new R
then None mid new P Q R h k f = subst (λ o. Between o new Q) h k
then (Some before) mid new P Q R (xs, is, p) k f =
    let (ys, ended, q) = subst (λ o. Between o new Q) is k in
    (xs ++ ys, ended ∙ ap Some (append_assoc before xs ys), f xs ys p q)

-- what is known of the calls, said otherwise
pub weaker : (old new : Option (List Made)) (P Q : List Made → Type 0) → Between old new P → ((xs : List Made) → P xs → Q xs) → Between old new Q
weaker None new P Q h f = h
weaker (Some before) new P Q (xs, is, p) f = (xs, is, f xs p)
