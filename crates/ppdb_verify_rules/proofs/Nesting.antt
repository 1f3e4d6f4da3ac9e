-- The opened scopes decide whether a scope crosses an earlier one of its method.
use Rattle.std.proofs.Common.{◌≡◌, ℕ, ◌+◌, ◌-◌, ◌<◌, ◌≤◌, List, [], ◌∷◌, ◌++◌, length, slice_get, take, get_or, Some, refl, subst, arith, inl, inr, length-append}
use Rattle.std.proofs.{Common.{IsTrue, ◌↔◌, nat_lt}, lemmas.List.{get_or-take, length-take}, lemmas.Bool.{cases_lt}, lemmas.Bool.Decides.{nat_tests}}
use Rattle.std.proofs.{lemmas.Option.{slice_get_within, get_or_from_slice_get}, Math.ListN.{get_or-append}, Math.Seq.{get_or-append_seam}}
use Rattle.ppdb_base.specs.{declared.code.Code.TheVariants.{ScopeOrder, ScopeCrossing, ScopeRange}, Place.{cell}}
use Rattle.ppdb_tables.{specs.declared.rows.ScopeRow.{ScopeRow}, specs.RawTables.{RawTables, row_at}, proofs.NumberedRows.{same_row}}
use Rattle.ppdb_verify_rules.specs.{Earlier.{HasEarlier}, Judged.{ToCell}, Open.{AreOpen, EndsThere}, Rows.RowFaults.{in_scope}, Rows.ScopeFault.{out_of_order}}
use Rattle.ppdb_verify_rules.specs.{Rows.ScopeFault.{crossing as scope_crossing, no_range}, Scopes.{AreCrossed, Covers, IsAbove, scope_end}}
use Rattle.ppdb_verify_rules.proofs.Order.{scopes_in_order}

abbrev CrossesEarlier : List ScopeRow → ℕ → ScopeRow → Type 0
CrossesEarlier scopes row scope = HasEarlier (λ _ (e : ScopeRow). AreCrossed e scope) scopes row

-- past its method, a scope is below no earlier one
pub not_below : (raw : RawTables) (row i c : ℕ) (x scope : ScopeRow) → ToCell raw 0x32 row (c + 1)
    → row_at raw.scopes row ≡ Some scope → row_at raw.scopes i ≡ Some x → i < row → IsAbove x scope → ⊥
not_below raw row i c x scope clear here there sooner above =
    clear ScopeOrder (cell 0x32 row 0)
    (in_scope here (out_of_order (record { before = i; earlier = x; there = there; sooner = sooner; forbidden = above })))
    (inr (refl, inr (refl, inr (refl, inl (omega arith)))))

cross : (a b : ScopeRow) → (IsAbove a b → ⊥) → a.method ≡ b.method → a.start ≤ b.start → b.start < scope_end a → scope_end a < scope_end b
    → AreCrossed a b
cross a b not_above same begun later longer = record {
  one_method = same;
  shared = b.start;
  in_both = ((begun, later), (omega arith, omega arith));
  first = λ all. let x : Covers a (scope_end a) = all (scope_end a) (omega arith, longer) in omega (arith, x.1);
  second =
      λ all. let x : Covers b a.start = all a.start (omega arith, omega arith) in not_above (let from : b.start ≤ a.start = x.0 in grind arith);
}

-- an opened scope that ends before this one does crosses it
pub crossing_at : (raw : RawTables) (row : ℕ) (scope : ScopeRow) (ends : List ℕ) (k : ℕ)
    → row_at raw.scopes row ≡ Some scope → ToCell raw 0x32 row 4 → AreOpen raw.scopes row scope.method scope.start ends
    → k < length ends → get_or ends k 0 < scope_end scope
    → CrossesEarlier raw.scopes row scope
crossing_at raw row scope ends k here clear opened within longer =
    let e : EndsThere raw.scopes row scope.method (get_or ends k 0) = opened.each k within in
    record {
      before = e.before;
      earlier = e.earlier;
      there = e.there;
      sooner = e.sooner;
      forbidden = cross e.earlier scope (not_below raw row e.before 3 e.earlier scope clear here e.there e.sooner) e.forbidden.0
          (opened.begun e.before e.earlier e.there e.sooner e.forbidden.0) (rw e.forbidden.1 (opened.later k within)) (rw e.forbidden.1 longer);
    }

-- where each opened scope ends no sooner than this one, none crosses it
pub none_crosses : (scopes : List ScopeRow) (row : ℕ) (scope : ScopeRow) (ends : List ℕ)
    → AreOpen scopes row scope.method scope.start ends
    → ((k : ℕ) → k < length ends → scope_end scope ≤ get_or ends k 0)
    → CrossesEarlier scopes row scope → ⊥
none_crosses scopes row scope ends opened longer crossing =
    let begun : crossing.earlier.start ≤ scope.start = opened.begun crossing.before crossing.earlier crossing.there crossing.sooner crossing.forbidden.one_method in
    let both : Covers crossing.earlier crossing.forbidden.shared × Covers scope crossing.forbidden.shared = crossing.forbidden.in_both in
    elim (opened.others crossing.before crossing.earlier crossing.there crossing.sooner crossing.forbidden.one_method) [
      | inl over ↦ omega (arith, both.0.1, both.1.0)
      | inr k ↦
          let reaches : scope_end scope ≤ scope_end crossing.earlier = rw (← k.2) (longer k.0 k.1) in
          crossing.forbidden.first (λ offset inside. (omega (arith, inside.0), omega (arith, inside.1)))
    ]

-- closing what ends by the offset leaves what is opened there
pub open_closed : (scopes : List ScopeRow) (row method start offset n : ℕ) (ends : List ℕ)
    → AreOpen scopes row method start ends → start ≤ offset → n ≤ length ends
    → ((k : ℕ) → n ≤ k → k < length ends → get_or ends k 0 ≤ offset)
    → (0 < n → offset < get_or (take n ends) (n - 1) 0)
    → AreOpen scopes row method offset (take n ends)
open_closed scopes row method start offset n ends opened late short closed last = record {
  each = λ k within. rw (get_or-take n ends k 0 (omega (arith, length-take n ends, within))) (opened.each k (omega (arith, length-take n ends, within)));
  nested = λ j k le within. rw (
    get_or-take n ends k 0 (omega (arith, length-take n ends, within)),
    get_or-take n ends j 0 (omega (arith, length-take n ends, within)),
  )
      (opened.nested j k le (omega (arith, length-take n ends, within)));
  later = λ k within.
      let lt : k < n = omega (arith, length-take n ends, within) in
      let at_last : offset < get_or (take n ends) (n - 1) 0 = last (omega arith) in
      let at_end : offset < get_or ends (n - 1) 0 = rw (get_or-take n ends (n - 1) 0 (omega arith)) at at_last in
      let falls : get_or ends (n - 1) 0 ≤ get_or ends k 0 = opened.nested k (n - 1) (omega arith) (omega arith) in
      rw (get_or-take n ends k 0 lt) (omega arith);
  begun = λ before earlier there sooner same. let e = opened.begun before earlier there sooner same in omega (arith, e);
  others = λ before earlier there sooner same. elim (opened.others before earlier there sooner same) [
    | inl over ↦ inl (omega arith)
    | inr k ↦ elim (cases_lt k.0 n) [
      | inl lt ↦ inr (k.0, omega (arith, length-take n ends, k.1), rw (get_or-take n ends k.0 0 lt) k.2)
      | inr ge ↦ inl (let e = closed k.0 ge k.1 in omega (arith, e, k.2))
    ]
  ];
}

-- where no earlier scope is of the method, none is open
pub none_open : (scopes : List ScopeRow) (row method start : ℕ)
    → ((before : ℕ) (earlier : ScopeRow) → row_at scopes before ≡ Some earlier → before < row → earlier.method ≡ method → ⊥)
    → AreOpen scopes row method start []
none_open scopes row method start none = record {
  each = λ k within. absurd (omega (arith, within));
  nested = λ j k le within. absurd (omega (arith, within));
  later = λ k within. absurd (omega (arith, within));
  begun = λ before earlier there sooner same. absurd (none before earlier there sooner same);
  others = λ before earlier there sooner same. absurd (none before earlier there sooner same);
}

-- a scope that no earlier one crosses is the innermost of the open ones
pub open_pushed : (scopes : List ScopeRow) (row : ℕ) (scope : ScopeRow) (ends : List ℕ)
    → row_at scopes row ≡ Some scope → AreOpen scopes row scope.method scope.start ends
    → ((k : ℕ) → k < length ends → scope_end scope ≤ get_or ends k 0)
    → 0 < scope.length
    → AreOpen scopes (row + 1) scope.method scope.start (ends ++ scope_end scope ∷ [])
open_pushed scopes row scope ends here opened longer some = record {
  each = λ k within. elim (cases_lt k (length ends)) [
    | inl lt ↦ rw (get_or-append ends (scope_end scope ∷ []) 0 k lt) (let e : EndsThere scopes row scope.method (get_or ends k 0) = opened.each k lt in
        record { before = e.before; earlier = e.earlier; there = e.there; sooner = let s : e.before < row = e.sooner in omega arith; forbidden = e.forbidden })
    | inr ge ↦ let same : k ≡ length ends = omega (arith, within, length-append ends (scope_end scope ∷ [])) in
        rw (same, get_or-append_seam ends (scope_end scope) [] 0) (record {
          before = row;
          earlier = scope;
          there = here;
          sooner = omega arith;
          forbidden = (refl, refl);
        })
  ];
  nested = λ j k le within. elim (cases_lt k (length ends)) [
    | inl lt ↦ rw (get_or-append ends (scope_end scope ∷ []) 0 k lt, get_or-append ends (scope_end scope ∷ []) 0 j (omega arith)) (opened.nested j k le lt)
    | inr ge ↦ let same : k ≡ length ends = omega (arith, within, length-append ends (scope_end scope ∷ [])) in
        rw (same, get_or-append_seam ends (scope_end scope) [] 0) (elim (cases_lt j (length ends)) [
          | inl lt ↦ rw (get_or-append ends (scope_end scope ∷ []) 0 j lt) (longer j lt)
          | inr also ↦ let e : j ≡ length ends = omega arith in rw (e, get_or-append_seam ends (scope_end scope) [] 0) (omega arith)
        ])
  ];
  later = λ k within. elim (cases_lt k (length ends)) [
    | inl lt ↦ rw (get_or-append ends (scope_end scope ∷ []) 0 k lt) (opened.later k lt)
    | inr ge ↦ let same : k ≡ length ends = omega (arith, within, length-append ends (scope_end scope ∷ [])) in
        rw (same, get_or-append_seam ends (scope_end scope) [] 0) (omega arith)
  ];
  begun = λ before earlier there sooner same. elim (cases_lt before row) [
    | inl lt ↦ opened.begun before earlier there lt same
    | inr ge ↦ let e : before ≡ row = omega arith in
        let h : row_at scopes row ≡ Some earlier = subst (λ (n : ℕ). row_at scopes n ≡ Some earlier) e there in
        let s : earlier ≡ scope = same_row scopes row earlier scope h here in rw s (omega arith)
  ];
  others = λ before earlier there sooner same. elim (cases_lt before row) [
    | inl lt ↦ elim (opened.others before earlier there lt same) [
      | inl over ↦ inl over
      | inr k ↦ inr (k.0, omega (arith, k.1, length-append ends (scope_end scope ∷ [])), rw (get_or-append ends (scope_end scope ∷ []) 0 k.0 k.1) k.2)
    ]
    | inr ge ↦ let e : before ≡ row = omega arith in
        let h : row_at scopes row ≡ Some earlier = subst (λ (n : ℕ). row_at scopes n ≡ Some earlier) e there in
        let s : earlier ≡ scope = same_row scopes row earlier scope h here in
        inr (length ends, omega (arith, length-append ends (scope_end scope ∷ [])), rw (get_or-append_seam ends (scope_end scope) [] 0, s) refl)
  ];
}

-- at the first scope of a method no earlier one of it is open
pub at_new_method : (raw : RawTables) (row : ℕ) (scope before : ScopeRow) → ToCell raw 0x32 row 4
    → row_at raw.scopes row ≡ Some scope → row_at raw.scopes (row - 1) ≡ Some before → (before.method ≡ scope.method → ⊥)
    → AreOpen raw.scopes row scope.method scope.start []
at_new_method raw row scope before clear here there other = none_open raw.scopes row scope.method scope.start
    (λ i x at sooner same. elim (cases_lt i (row - 1)) [
      | inl lt ↦
          let low : IsAbove x before → ⊥ = scopes_in_order raw row 4 i (row - 1) x before clear at there lt (omega arith) in
          let high : IsAbove before scope → ⊥ = not_below raw row (row - 1) 3 before scope clear here there (omega arith) in
          other (grind arith)
      | inr ge ↦ let e : i ≡ row - 1 = omega arith in
          let h : row_at raw.scopes (row - 1) ≡ Some x = subst (λ (n : ℕ). row_at raw.scopes n ≡ Some x) e at in
          let s : x ≡ before = same_row raw.scopes (row - 1) x before h there in
          other (rw (← s) same)
    ])

-- at a further scope of a method those that end before it are closed
pub at_same_method : (raw : RawTables) (row n : ℕ) (scope before : ScopeRow) (ends : List ℕ) → ToCell raw 0x32 row 4
    → row_at raw.scopes row ≡ Some scope → row_at raw.scopes (row - 1) ≡ Some before → 1 < row → before.method ≡ scope.method
    → AreOpen raw.scopes row before.method before.start ends → n ≤ length ends
    → ((k : ℕ) → n ≤ k → k < length ends → get_or ends k 0 ≤ scope.start)
    → (0 < n → scope.start < get_or (take n ends) (n - 1) 0)
    → AreOpen raw.scopes row scope.method scope.start (take n ends)
at_same_method raw row n scope before ends clear here there second same opened short closed last =
    let high : IsAbove before scope → ⊥ = not_below raw row (row - 1) 3 before scope clear here there (omega arith) in
    let later : before.start ≤ scope.start = grind arith in
    let o : AreOpen raw.scopes row scope.method before.start ends = subst (λ m. AreOpen raw.scopes row m before.start ends) same opened in
    open_closed raw.scopes row scope.method before.start scope.start n ends o later short closed last

-- the innermost open scope decides
pub innermost_decides : (raw : RawTables) (row : ℕ) (scope : ScopeRow) (ends : List ℕ) (top : ℕ)
    → row_at raw.scopes row ≡ Some scope → ToCell raw 0x32 row 4 → AreOpen raw.scopes row scope.method scope.start ends
    → slice_get ends (length ends - 1) ≡ Some top
    → IsTrue (nat_lt top (scope_end scope)) ↔ CrossesEarlier raw.scopes row scope
innermost_decides raw row scope ends top here clear opened last =
    let within : length ends - 1 < length ends = slice_get_within ends (length ends - 1) top last in
    let is_top : get_or ends (length ends - 1) 0 ≡ top = get_or_from_slice_get ends (length ends - 1) top 0 last in (
      (λ yes. let lt : top < scope_end scope = grind (arith, nat_tests) in
          crossing_at raw row scope ends (length ends - 1) here clear opened within (rw is_top lt)),
      (λ crossing. elim (cases_lt top (scope_end scope)) [
        | inl lt ↦ grind (arith, nat_tests)
        | inr ge ↦ absurd (none_crosses raw.scopes row scope ends opened
            (λ k short. let falls : get_or ends (length ends - 1) 0 ≤ get_or ends k 0 = opened.nested k (length ends - 1) (omega arith) within in
            omega (arith, is_top)) crossing)
      ]),
    )

-- what the pass keeps past a row that is clear
pub after_row : (raw : RawTables) (row : ℕ) (scope b : ScopeRow) (ends : List ℕ)
    → row_at raw.scopes row ≡ Some scope → ToCell raw 0x32 row 6 → AreOpen raw.scopes row scope.method scope.start ends
    → row_at raw.scopes row ≡ Some b
    → AreOpen raw.scopes (row + 1) b.method b.start (ends ++ scope_end scope ∷ [])
after_row raw row scope b ends here clear opened again =
    let s : scope ≡ b = same_row raw.scopes row scope b here again in
    let before : ToCell raw 0x32 row 4 = λ code at invalid early. clear code at invalid (grind arith) in
    subst (λ (x : ScopeRow). AreOpen raw.scopes (row + 1) x.method x.start (ends ++ scope_end scope ∷ [])) s
    (open_pushed raw.scopes row scope ends here opened
    (λ k within. elim (cases_lt (get_or ends k 0) (scope_end scope)) [
      | inl lt ↦ absurd (clear ScopeCrossing (cell 0x32 row 4)
          (in_scope here (scope_crossing (crossing_at raw row scope ends k here before opened within lt)))
          (inr (refl, inr (refl, inr (refl, inl (omega arith))))))
      | inr ge ↦ ge
    ])
    (elim (cases_lt 0 scope.length) [
      | inl lt ↦ lt
      | inr none ↦ absurd (clear ScopeRange (cell 0x32 row 5) (in_scope here (no_range (inl (omega arith))))
          (inr (refl, inr (refl, inr (refl, inl (omega arith))))))
    ]))
