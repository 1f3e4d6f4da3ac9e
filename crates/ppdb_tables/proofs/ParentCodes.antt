-- Coded parents and parents undo each other.
use Rattle.std.proofs.Common.{◌≡◌, ℕ, true, false, Bool, ◌+◌, ◌*◌, ◌/◌, ◌%◌, ◌<◌, get_or, Option, Some, None, refl, ap, subst, ◌∙◌, arith, eqb}
use Rattle.std.{specs.Prelude.{IfSome, slice_get}, specs.List.{position, list_all, range_with_len}, specs.Option.{option_map}, proofs.lemmas.Bool.{eqb-true}}
use Rattle.std.proofs.lemmas.{Option.{slice_get-get_or, slice_get_within, get_or_from_slice_get}, List.Quantifiers.{position-Some}, List.Folds.{list_all_at}}
use Rattle.std.proofs.lemmas.List.FromFn.{get_or-range_with_len}
use Rattle.row_layout.specs.Columns.{parent_tables}
use Rattle.ppdb_tables.specs.{declared.parent.Parent.{Parent}, Parents.{parent_in, coded_in}}

coded_case : (parent : Parent) (o : Option ℕ) → position (λ table. eqb table parent.table) parent_tables ≡ o
    → IfSome (option_map (λ tag. parent.row * 32 + tag) o) (λ coded. parent_in coded ≡ Some parent)
coded_case parent None e = tt
coded_case parent (Some tag) e =
    let found = position-Some (λ table. eqb table parent.table) parent_tables tag 0 e in
    let small : tag < 27 = found.0 in
    let table : get_or parent_tables tag 0 ≡ parent.table = eqb-true _ _ found.1 in
    let low : (parent.row * 32 + tag) % 32 ≡ tag = omega (arith, small) in
    let high : (parent.row * 32 + tag) / 32 ≡ parent.row = omega (arith, small) in
    rw (low, high, slice_get-get_or parent_tables tag 0 small, table) refl

pub coded_parent : (parent : Parent) → IfSome (coded_in parent) (λ coded. parent_in coded ≡ Some parent)
coded_parent parent = coded_case parent (position (λ table. eqb table parent.table) parent_tables) refl

-- each table stands at its own tag first
is_tag : ℕ → Option ℕ → Bool
is_tag tag None = false
is_tag tag (Some found) = eqb found tag

stands_first : ℕ → Bool
stands_first tag = is_tag tag (position (λ table. eqb table (get_or parent_tables tag 0)) parent_tables)

all_first : list_all stands_first (range_with_len 0 27) ≡ true
unfolding stands_first is_tag
all_first = refl

first_case : (tag : ℕ) (b : Bool) → stands_first tag ≡ b → tag < 27 → stands_first tag ≡ true
first_case tag true e lt = e
first_case tag false e lt =
    let here : get_or (range_with_len 0 27) tag 0 ≡ tag = get_or-range_with_len 0 27 tag 0 lt ∙ omega arith in
    let no = list_all_at stands_first (range_with_len 0 27) tag 0 lt (ap stands_first here ∙ e) in
    let all = all_first in
    absurd cc

is_tag_some : (tag : ℕ) (o : Option ℕ) → is_tag tag o ≡ true → o ≡ Some tag
unfolding is_tag
is_tag_some tag None e = absurd cc
is_tag_some tag (Some found) e = ap Some (eqb-true found tag e)

at_its_tag : (tag : ℕ) → tag < 27 → position (λ table. eqb table (get_or parent_tables tag 0)) parent_tables ≡ Some tag
unfolding stands_first
at_its_tag tag lt = is_tag_some tag _ (first_case tag (stands_first tag) refl lt)

parent_case : (coded : ℕ) (o : Option ℕ) → slice_get parent_tables (coded % 32) ≡ o
    → IfSome (option_map (λ table. record { table = table; row = coded / 32 }) o) (λ parent. coded_in parent ≡ Some coded)
parent_case coded None e = tt
parent_case coded (Some table) e =
    let lt : coded % 32 < 27 = slice_get_within parent_tables (coded % 32) table e in
    let is : get_or parent_tables (coded % 32) 0 ≡ table = get_or_from_slice_get parent_tables (coded % 32) table 0 e in
    let tag : position (λ other. eqb other table) parent_tables ≡ Some (coded % 32) =
    subst (λ t. position (λ other. eqb other t) parent_tables ≡ Some (coded % 32)) is (at_its_tag (coded % 32) lt) in
    rw tag (ap Some (omega arith))

pub parent_coded : (coded : ℕ) → IfSome (parent_in coded) (λ parent. coded_in parent ≡ Some coded)
parent_coded coded = parent_case coded (slice_get parent_tables (coded % 32)) refl
