-- The slots of variables, row after row and scope after scope.
use Rattle.std.proofs.Common.{◌≡◌, ℕ, ◌+◌, ◌-◌, ◌≤◌, ◌++◌, List, [], ◌∷◌, Some, map, flat_map, append-nil, append_assoc, refl, sym, ◌∙◌, ap, arith}
use Rattle.std.{specs.Prelude.{slice_range}, proofs.lemmas.List.{map-append}}
use Rattle.ppdb_tables.specs.RawTables.{row_at}
use Rattle.ppdb_values.specs.declared.scope.{ScopeValue.{ScopeValue}, VariableValue.{VariableValue}}
use Rattle.ppdb_values_reading.{specs.declared.scopes.Scope.{Scope}, proofs.Lists.{slice_more, slice_none}}
use Rattle.ppdb_merge_fits.specs.{declared.used.MethodSlot.{MethodSlot}, Slots.{scope_slots}}

-- ---- the variables of a list

module _ (f : VariableValue → MethodSlot) (xs : List VariableValue) (start : List MethodSlot) where
  pub slots_none : (first : ℕ) → start ≡ start ++ map f (slice_range xs first first)
  slots_none first =
      sym (append-nil start) ∙ ap (λ (l : List VariableValue). start ++ map f l) (sym (slice_none xs first first (omega arith)))

  pub slots_more : (slots more : List MethodSlot) (first row : ℕ) (x : VariableValue) → 1 ≤ first → first ≤ row → row_at xs row ≡ Some x
      → slots ≡ start ++ map f (slice_range xs (first - 1) (row - 1)) → more ≡ slots ++ f x ∷ []
      → more ≡ start ++ map f (slice_range xs (first - 1) (row + 1 - 1))
  slots_more slots more first row x low le there same pushed =
      let before = slice_range xs (first - 1) (row - 1) in
      pushed ∙ ap (λ (l : List MethodSlot). l ++ f x ∷ []) same ∙ append_assoc start (map f before) (f x ∷ [])
      ∙ ap (λ (l : List MethodSlot). start ++ l) (sym (map-append f before (x ∷ [])))
      ∙ ap (λ (l : List VariableValue). start ++ map f l) (slice_more xs before (before ++ x ∷ []) first row x low le there refl refl)

  pub slots_all : (slots : List MethodSlot) (first row end : ℕ) → row ≡ end → slots ≡ start ++ map f (slice_range xs (first - 1) (row - 1))
      → slots ≡ start ++ map f (slice_range xs (first - 1) (end - 1))
  slots_all slots first row end last same = same ∙ ap (λ (n : ℕ). start ++ map f (slice_range xs (first - 1) (n - 1))) last

-- ---- the scopes

module _ (value : Scope → ScopeValue) where
  abbrev left_slots : List Scope → List MethodSlot
  left_slots scopes = flat_map scope_slots (map value scopes)

  pub slots_begun : (slots : List MethodSlot) (scopes all : List Scope) (values : List ScopeValue) → slots ≡ [] → scopes ≡ all → map value all ≡ values
      → slots ++ left_slots scopes ≡ flat_map scope_slots values
  slots_begun slots scopes all values empty same are =
      ap (λ (l : List MethodSlot). l ++ left_slots scopes) empty
      ∙ ap (λ (l : List Scope). flat_map scope_slots (map value l)) same ∙ ap (flat_map scope_slots) are

  pub slots_on : (slots more all : List MethodSlot) (scopes rest : List Scope) (scope : Scope) → scopes ≡ scope ∷ rest
      → more ≡ slots ++ scope_slots (value scope) → slots ++ left_slots scopes ≡ all → more ++ left_slots rest ≡ all
  slots_on slots more all scopes rest scope first pushed same =
      ap (λ (l : List MethodSlot). l ++ left_slots rest) pushed ∙ append_assoc slots (scope_slots (value scope)) (left_slots rest)
      ∙ ap (λ (l : List Scope). slots ++ left_slots l) (sym first) ∙ same

  pub slots_made : (slots all : List MethodSlot) (scopes : List Scope) → scopes ≡ [] → slots ++ left_slots scopes ≡ all → slots ≡ all
  slots_made slots all scopes none same =
      sym (append-nil slots) ∙ ap (λ (l : List Scope). slots ++ left_slots l) (sym none) ∙ same
