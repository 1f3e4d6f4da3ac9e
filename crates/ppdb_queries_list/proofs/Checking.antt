-- The lines of a text that were read, and those that are left.
use Rattle.std.{proofs.Common.{ℕ, ◌≡◌, ◌+◌, ◌-◌, ◌<◌, ◌≤◌, inl, inr, List, [], ◌∷◌, length, sym, subst, arith}, specs.Str.Lines.{lines}}
use Rattle.ppdb_maps.specs.Cuts.{IsLineOf}
use Rattle.ppdb_queries_list.specs.{Lists.{IsListed, Lists, none, silent, asks, IsFirstOther, here, later}, Said.{IsSaid}, declared.line.MethodOffset.{MethodOffset}}
use Rattle.ppdb_queries_list.specs.declared.line.Said.{Said}
use Rattle.ppdb_queries_list.specs.declared.line.Said.TheVariants as answers
use Rattle.std.{proofs.Common.{Option, Some, None, MatchOption, true, false, refl}, specs.Prelude.{◌==◌}, specs.Option.{is_some}, proofs.lemmas.Bool.{false≢true}}

-- the first line of a text that is not empty
pub first_of : (text line rest : List ℕ) → 0 < length text → IsLineOf text line rest → lines text ≡ line ∷ lines rest
first_of [] line rest some cut = absurd (omega (arith, some))
first_of (b ∷ bs) line rest some cut = cut.first

-- so many lines are read, and what holds of the rest holds of all
pub record SoFar (all rest : List (List ℕ)) (number : ℕ) : Type 0 where
  pub read : (asked : List MethodOffset) → Lists rest asked → (more : List MethodOffset) × Lists all more
  pub other : (n : ℕ) → IsFirstOther rest n → IsFirstOther all (number + n - 1)
  pub from : 1 ≤ number

pub so_far_start : (all : List (List ℕ)) → SoFar all all 1
so_far_start all = record {
  read = λ asked h. (asked, h);
  other = λ n h. subst (IsFirstOther all) (let e : n ≡ 1 + n - 1 = omega arith in e) h;
  from = omega arith;
}

with_line : (line : List ℕ) (rest : List (List ℕ)) (asked : List MethodOffset) → IsListed line → Lists rest asked
    → (more : List MethodOffset) × Lists (line ∷ rest) more
with_line line rest asked (inl s) h = (asked, silent s h)
with_line line rest asked (inr a) h = (a.0 ∷ asked, asks a.1 h)

pub so_far_more : (all rest others : List (List ℕ)) (line : List ℕ) (number : ℕ) → SoFar all rest number → rest ≡ line ∷ others → IsListed line
    → SoFar all others (number + 1)
so_far_more all rest others line number h e listed = record {
  read = λ asked k. let with = with_line line others asked listed k in h.read with.0 (subst (λ r. Lists r with.0) (sym e) with.1);
  other = λ n k. subst (IsFirstOther all) (let from : 1 ≤ number = h.from in let e : number + (n + 1) - 1 ≡ number + 1 + n - 1 = omega (arith, from) in e)
      (h.other (n + 1) (subst (λ r. IsFirstOther r (n + 1)) (sym e) (later listed k)));
  from = omega arith;
}

pub so_far_list : (all : List (List ℕ)) (number : ℕ) → SoFar all [] number → (asked : List MethodOffset) × Lists all asked
so_far_list all number h = h.read [] none

pub so_far_other : (all rest others : List (List ℕ)) (line : List ℕ) (number : ℕ) → SoFar all rest number → rest ≡ line ∷ others → (IsListed line → ⊥)
    → IsFirstOther all number
so_far_other all rest others line number h e other =
    subst (IsFirstOther all) (let from : 1 ≤ number = h.from in let e : number + 1 - 1 ≡ number = omega (arith, from) in e)
    (h.other 1 (subst (λ r. IsFirstOther r 1) (sym e) (here other)))

-- what is read of a line
pub not_said : (r : Option Said) (line : List ℕ) → MatchOption r (IsListed line → ⊥) (IsSaid line) → is_some r ≡ false → IsListed line → ⊥
not_said None line said nothing = said
not_said (Some x) line said nothing = absurd (false≢true (sym nothing))

pub is_said : (r : Option Said) (line : List ℕ) → MatchOption r (IsListed line → ⊥) (IsSaid line) → is_some r ≡ true → IsListed line
is_said None line said some = absurd (false≢true some)
is_said (Some answers.Nothing) line said some = inl said
is_said (Some (answers.Asks at)) line said some = inr (at, said)

pub nothing_left : (text : List ℕ) → (length text == 0) ≡ true → lines text ≡ []
nothing_left [] e = refl
nothing_left (b ∷ bs) e = absurd (grind (arith, e))
