-- The open scopes of a method, from scope to scope.
use Rattle.std.proofs.Common.{◌≡◌, ℕ, zero, suc, ◌+◌, ◌-◌, ◌<◌, ◌≤◌, List, [], ◌∷◌, ◌++◌, length, take, get_or, sym, subst, ap, ◌∙◌, arith, inl, inr, length-append}
use Rattle.std.{specs.Prelude.{AllPairs}, proofs.lemmas.List.{get_or_read, get_or-take, length-take}, proofs.lemmas.Bool.{cases_lt}}
use Rattle.std.proofs.Math.{ListN.{get_or-append}, Seq.{get_or-append_seam}}
use Rattle.ppdb_values.specs.{declared.scope.ScopeValue.{ScopeValue}, Ranges.{ComesAfter, IsInOrAfter}}
use Rattle.ppdb_values_check.specs.{Pairs.{PrefixStands}, Scopes.{AreOpen, ComesBefore, EndsThere, IsNested, IsOpen, WasOpen}}

-- a later scope is of no earlier method
pub method_rises : (a b : ScopeValue) → ComesBefore a b → a.method ≤ b.method
method_rises a b before = elim before [ inl lt ↦ omega arith | inr same ↦ let e = same.0 in omega arith ]

-- a later scope of the method starts no earlier
start_rises : (a b : ScopeValue) → ComesBefore a b → a.method ≡ b.method → a.range.start ≤ b.range.start
start_rises a b before same = elim before [
  | inl lt ↦ absurd (omega arith)
  | inr after ↦ elim after.1 [ inl lt ↦ omega arith | inr level ↦ let e = level.0 in omega arith ]
]

pub comes_after : (a b : ScopeValue) → ComesBefore a b → a.method ≡ b.method → ComesAfter a.range b.range
comes_after a b before same = elim before [ inl lt ↦ absurd (omega arith) | inr after ↦ after.1 ]

pub comes_before : (a b : ScopeValue) → a.method ≤ b.method → (a.method ≡ b.method → ComesAfter a.range b.range) → ComesBefore a b
comes_before a b rises after = elim (cases_lt a.method b.method) [
  | inl lt ↦ inl lt
  | inr ge ↦ let same : a.method ≡ b.method = omega arith in inr (same, after same)
]

module _ (scopes : List ScopeValue) where
  -- where no earlier scope is of the method, none is open
  pub none_open : (place method start : ℕ) → ((k : ℕ) (d : ScopeValue) → k < place → (get_or scopes k d).method ≡ method → ⊥)
      → AreOpen scopes place method start []
  none_open place method start none = record {
    each = λ k within. absurd (omega (arith, within));
    nested = λ j k le within. absurd (omega (arith, within));
    later = λ k within. absurd (omega (arith, within));
    others = λ before d sooner same. absurd (none before d sooner same);
  }

  -- closing what ends by the offset leaves what is open there
  pub open_closed : (place method start offset n : ℕ) (ends : List ℕ)
      → AreOpen scopes place method start ends → start ≤ offset → n ≤ length ends
      → ((k : ℕ) → n ≤ k → k < length ends → get_or ends k 0 ≤ offset)
      → (0 < n → offset < get_or (take n ends) (n - 1) 0)
      → AreOpen scopes place method offset (take n ends)
  open_closed place method start offset n ends opened late short closed last = record {
    each = λ k within. rw (get_or-take n ends k 0 (omega (arith, length-take n ends, within))) (opened.each k (omega (arith, length-take n ends, within)));
    nested = λ j k le within. rw (
      get_or-take n ends k 0 (omega (arith, length-take n ends, within)),
      get_or-take n ends j 0 (omega (arith, length-take n ends, within)),
    )
        (opened.nested j k le (omega (arith, length-take n ends, within)));
    later = λ k within.
        let lt : k < n = omega (arith, length-take n ends, within) in
        let at_last : offset < get_or (take n ends) (n - 1) 0 = last (omega arith) in
        let at_end : offset < get_or ends (n - 1) 0 = rw (get_or-take n ends (n - 1) 0 (omega arith)) at at_last in
        let falls : get_or ends (n - 1) 0 ≤ get_or ends k 0 = opened.nested k (n - 1) (omega arith) (omega arith) in
        rw (get_or-take n ends k 0 lt) (omega arith);
    others = λ before d sooner same. elim (opened.others before d sooner same) [
      | inl over ↦ inl (omega arith)
      | inr k ↦ elim (cases_lt k.0 n) [
        | inl lt ↦ inr (k.0, omega (arith, length-take n ends, k.1), rw (get_or-take n ends k.0 0 lt) k.2)
        | inr ge ↦ inl (let e = closed k.0 ge k.1 in omega (arith, e, k.2))
      ]
    ];
  }

  module _ (place : ℕ) (inside : place < length scopes) (scope : ScopeValue) (here : scope ≡ get_or scopes place scope) where
    -- the same for the scope, whatever stands for one that is not there
    pub is_open : (ends : List ℕ) (at : ℕ) → AreOpen scopes at scope.method scope.range.start ends → IsOpen scopes place at ends
    is_open ends at opened d = subst (λ x. AreOpen scopes at x.method x.range.start ends) (get_or_read scopes place scope inside here d) opened

    pub from_open : (ends : List ℕ) (at : ℕ) → IsOpen scopes place at ends → AreOpen scopes at scope.method scope.range.start ends
    from_open ends at opened = subst (λ x. AreOpen scopes at x.method x.range.start ends) (sym here) (opened scope)

    -- a scope that lies in all open ones is the innermost
    pub open_pushed : (ends : List ℕ) → AreOpen scopes place scope.method scope.range.start ends → PrefixStands IsNested scopes place place
        → scope.range.start < scope.range.end → AreOpen scopes (place + 1) scope.method scope.range.start (ends ++ scope.range.end ∷ [])
    open_pushed ends opened nested some =
        let longer : (k : ℕ) → k < length ends → scope.range.end ≤ get_or ends k 0 = λ k within.
        (let e : EndsThere scopes place scope.method (get_or ends k 0) = opened.each k within in
        let same = (e.2 scope).0 in
        let ends_so = (e.2 scope).1 in
        let lies : IsInOrAfter (get_or scopes e.0 scope).range scope.range =
        subst (λ x. IsInOrAfter (get_or scopes e.0 scope).range x.range) (sym here) (nested e.0 scope e.1 (same ∙ ap (λ x. x.method) here)) in
        let later = opened.later k within in
        elim lies [ inl within_it ↦ omega arith | inr after ↦ absurd (omega arith) ])
        in record {
          each = λ k within. elim (cases_lt k (length ends)) [
            | inl lt ↦ rw (get_or-append ends (scope.range.end ∷ []) 0 k lt)
                (let e : EndsThere scopes place scope.method (get_or ends k 0) = opened.each k lt in
                let sooner = e.1 in (e.0, omega arith, e.2))
            | inr ge ↦ let same : k ≡ length ends = omega (arith, within, length-append ends (scope.range.end ∷ [])) in
                rw (same, get_or-append_seam ends scope.range.end [] 0) (
                  place,
                  omega arith,
                  λ d. let e = get_or_read scopes place scope inside here d in
                      (ap (λ x. x.method) (sym e), ap (λ x. x.range.end) (sym e)),
                )
          ];
          nested = λ j k le within. elim (cases_lt k (length ends)) [
            | inl lt ↦ rw (get_or-append ends (scope.range.end ∷ []) 0 k lt, get_or-append ends (scope.range.end ∷ []) 0 j (omega arith))
                (opened.nested j k le lt)
            | inr ge ↦ let same : k ≡ length ends = omega (arith, within, length-append ends (scope.range.end ∷ [])) in
                rw (same, get_or-append_seam ends scope.range.end [] 0) (elim (cases_lt j (length ends)) [
                  | inl lt ↦ rw (get_or-append ends (scope.range.end ∷ []) 0 j lt) (longer j lt)
                  | inr also ↦ let e : j ≡ length ends = omega arith in rw (e, get_or-append_seam ends scope.range.end [] 0) (omega arith)
                ])
          ];
          later = λ k within. elim (cases_lt k (length ends)) [
            | inl lt ↦ rw (get_or-append ends (scope.range.end ∷ []) 0 k lt) (opened.later k lt)
            | inr ge ↦ let same : k ≡ length ends = omega (arith, within, length-append ends (scope.range.end ∷ [])) in
                rw (same, get_or-append_seam ends scope.range.end [] 0) some
          ];
          others = λ before d sooner same. elim (cases_lt before place) [
            | inl lt ↦ elim (opened.others before d lt same) [
              | inl over ↦ inl over
              | inr k ↦ inr (k.0, omega (arith, k.1, length-append ends (scope.range.end ∷ [])), rw (get_or-append ends (scope.range.end ∷ []) 0 k.0 k.1) k.2)
            ]
            | inr ge ↦ let e : before ≡ place = omega arith in
                let s : scope ≡ get_or scopes before d = rw e (get_or_read scopes place scope inside here d) in
                inr (
                  length ends,
                  omega (arith, length-append ends (scope.range.end ∷ [])),
                  get_or-append_seam ends scope.range.end [] 0
                      ∙ ap (λ x. x.range.end) s,
                )
          ];
        }

    module _ (order : AllPairs ComesBefore scopes) (some : 0 < place) (last : ScopeValue) (before : last ≡ get_or scopes (place - 1) last) where
      last_at : (d : ScopeValue) → last ≡ get_or scopes (place - 1) d
      last_at d = get_or_read scopes (place - 1) last (omega arith) before d

      follows : ComesBefore last scope
      follows =
          let b : ComesBefore (get_or scopes (place - 1) last) (get_or scopes place last) = order (place - 1) place last (omega arith) inside in
          subst (λ x. ComesBefore last x) (sym (get_or_read scopes place scope inside here last))
          (subst (λ x. ComesBefore x (get_or scopes place last)) (sym before) b)

      -- at the first scope of a method no earlier one of it is open
      pub at_new_method : (last.method ≡ scope.method → ⊥) → AreOpen scopes place scope.method scope.range.start []
      at_new_method other = none_open place scope.method scope.range.start (λ k d sooner same.
          let high = method_rises last scope follows in
          elim (cases_lt k (place - 1)) [
            | inl lt ↦
                let low = method_rises (get_or scopes k d) (get_or scopes (place - 1) d) (order k (place - 1) d lt (omega arith)) in
                let low_last : (get_or scopes k d).method ≤ last.method = rw (last_at d) low in
                other (omega arith)
            | inr ge ↦
                let e : k ≡ place - 1 = omega arith in
                let s : (get_or scopes (place - 1) d).method ≡ scope.method = rw e at same in
                other (ap (λ x. x.method) (last_at d) ∙ s)
          ])

      -- at a further scope of a method those that end before it are closed
      pub at_same_method : (n : ℕ) (ends : List ℕ) → last.method ≡ scope.method → AreOpen scopes place last.method last.range.start ends → n ≤ length ends
          → ((k : ℕ) → n ≤ k → k < length ends → get_or ends k 0 ≤ scope.range.start)
          → (0 < n → scope.range.start < get_or (take n ends) (n - 1) 0)
          → AreOpen scopes place scope.method scope.range.start (take n ends)
      at_same_method n ends same opened short closed latest =
          open_closed place scope.method last.range.start scope.range.start n ends (subst (λ m. AreOpen scopes place m last.range.start ends) same opened)
          (start_rises last scope follows same) short closed latest

  -- what was open after the scope before
  pub was_open : (place : ℕ) (ends : List ℕ) → 0 < place → WasOpen scopes place ends → IsOpen scopes (place - 1) place ends
  was_open zero ends some opened = absurd (omega arith)
  was_open (suc before) ends some opened = let e : suc before - 1 ≡ before = omega arith in rw e opened

  pub is_then_open : (place : ℕ) (ends : List ℕ) → IsOpen scopes place (place + 1) ends → WasOpen scopes (place + 1) ends
  is_then_open place ends opened = let e : place + 1 ≡ suc place = omega arith in rw e (rw e at opened)
