-- Where the last scope owns some of the items, their list is not past its end.
use Rattle.std.{proofs.Common.{◌≡◌, ℕ, ◌≤◌, ◌&&◌, Bool, true, false, ap, ◌∙◌, arith, refl}, specs.Prelude.{Option, Some, None, ◌==◌}, specs.List.{sum_by}}
use Rattle.std.proofs.lemmas.{Bool.{eqb-true}, Bool.Decides.{nat_tests}}
use Rattle.sequence_points.specs.Written.{last_of}
use Rattle.ppdb_base.specs.declared.limits.Limit.TheVariants.{ListPastEnd}
use Rattle.ppdb_values.specs.declared.{file.FileValue.{FileValue}, scope.ScopeValue.{ScopeValue}}
use Rattle.ppdb_build_canon.{specs.Limits.{list_past_end, owns_none}, proofs.Limits.{met}}

module _ (value : FileValue) (table : ℕ) (items : ScopeValue → ℕ) where
  -- the last scope, if there is one, owns some
  some_owned : (last : Option ScopeValue) → ((scope : ScopeValue) → last ≡ Some scope → 1 ≤ items scope) → owns_none items last ≡ false
  some_owned None owns = refl
  some_owned (Some scope) owns = let some = owns scope refl in grind (arith, nat_tests)

  pub not_past_end : (sum_by items value.scopes ≡ 65535 → (scope : ScopeValue) → last_of value.scopes ≡ Some scope → 1 ≤ items scope)
      → list_past_end value table items ≡ None
  not_past_end owns = by (sum_by items value.scopes == 65535) refl
    where
      by : (b : Bool) → (sum_by items value.scopes == 65535) ≡ b → list_past_end value table items ≡ None
      by true is =
          ap (λ c. met ((sum_by items value.scopes == 65535) && c) (ListPastEnd table 65535))
          (some_owned (last_of value.scopes) (owns (eqb-true (sum_by items value.scopes) 65535 is)))
          ∙ ap (λ c. met (c && false) (ListPastEnd table 65535)) is
      by false is = ap (λ c. met (c && owns_none items (last_of value.scopes)) (ListPastEnd table 65535)) is
