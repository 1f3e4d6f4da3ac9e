-- The variables keep their rules.
use Rattle.std.{proofs.Common.{◌≡◌, ℕ, length, refl, sym, ap, ◌∙◌, subst}, specs.Prelude.{Some}}
use Rattle.ppdb_base.specs.{declared.code.Code.{Code}, First.{IsAccepted}}
use Rattle.ppdb_tables.specs.{declared.rows.ScopeRow.{ScopeRow}, declared.rows.VariableRow.{VariableRow}, RawTables.{RawTables, HasShape, row_at}}
use Rattle.ppdb_verify_rules.specs.{Rows.{RowFaults, VariableFault}, Rows.RowFaults.{in_variable}, Rows.ScopeFault.{no_variables}, Rows.VariableFault.{alone}}
use Rattle.ppdb_verify_rules.specs.{Rows.VariableFault.{same_slot, no_text, same_text}, Scopes.{AreSameText, IsListOut}}
use Rattle.ppdb_values.specs.{RawFile.{text}, Rules.{HasText, KeepsLists, KeepsVariables}}
use Rattle.ppdb_verify_accepted_laws.proofs.{Items.{text_there}, ScopeLists.{differ, lists_kept, none_alone}, Scopes.{no_fault as no_scope_fault}}

-- two indexes of one text
pub are_same_text : (raw : RawTables) (a b : ℕ) → HasText raw a → HasText raw b → text raw a ≡ text raw b → AreSameText raw.texts a b
are_same_text raw a b first second same = (text raw b, first ∙ ap (λ t. Some t) same, second)

module _ (raw : RawTables) (accepted : IsAccepted (RowFaults raw)) (shape : HasShape raw) where
  no_fault : (row : ℕ) (x : VariableRow) → row_at raw.variables row ≡ Some x → {column byte : ℕ} {code : Code}
      → VariableFault raw row x column byte code → ⊥
  no_fault row x here fault = accepted _ _ (in_variable here fault)

  good_lists : (row : ℕ) (scope : ScopeRow) → row_at raw.scopes row ≡ Some scope → IsListOut (λ s. s.variables) (length raw.variables) raw.scopes row scope → ⊥
  good_lists row scope here out =
      no_scope_fault raw accepted row scope here
      (no_variables (subst (λ (items : ℕ). IsListOut (λ s. s.variables) items raw.scopes row scope) shape.variables out))

  lists : KeepsLists (λ scope. scope.variables) raw.scopes (length raw.variables)
  lists = lists_kept (λ scope. scope.variables) raw.scopes (length raw.variables) good_lists
      (λ none. none_alone raw.variables (λ x here. no_fault 1 x here (alone (refl, sym shape.scopes ∙ ap length none))))

  names : (row : ℕ) (x : VariableRow) → row_at raw.variables row ≡ Some x → HasText raw x.name
  names row x here = text_there raw x.name (λ none. no_fault row x here (no_text none))

  pub variables_kept : KeepsVariables raw
  variables_kept = record {
    lists = lists;
    names = names;
    slots_differ = differ (λ variable. variable.slot) (λ scope. scope.variables) raw.scopes raw.variables lists (λ a b x y hx hy less share same.
        no_fault b y hy (same_slot (record { before = a; earlier = x; there = hx; sooner = less; forbidden = (share, same) })));
    names_differ = differ (λ variable. text raw variable.name) (λ scope. scope.variables) raw.scopes raw.variables lists (λ a b x y hx hy less share same.
        let are = are_same_text raw x.name y.name (names a x hx) (names b y hy) same in
        no_fault b y hy (same_text (record { before = a; earlier = x; there = hx; sooner = less; forbidden = (share, are) })));
  }
