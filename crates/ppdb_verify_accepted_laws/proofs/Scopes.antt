-- The scopes keep their rules.
use Rattle.std.{proofs.Common.{◌≡◌, ℕ, ◌+◌, ◌<◌, ◌≤◌, sym, arith, inl, inr}, specs.Prelude.{Some}, proofs.lemmas.Bool.{cases_lt}}
use Rattle.ppdb_base.specs.{declared.code.Code.{Code}, First.{IsAccepted}}
use Rattle.ppdb_tables.specs.{declared.rows.ScopeRow.{ScopeRow}, RawTables.{RawTables, count, row_at}}
use Rattle.ppdb_verify_rules.specs.{Rows.{RowFaults, ScopeFault}, Rows.RowFaults.{in_scope}, Rows.ScopeFault.{no_method, out_of_order, no_import, crossing}}
use Rattle.ppdb_verify_rules.specs.{Rows.ScopeFault.{no_range}, Scopes.{AreCrossed, IsAbove}}
use Rattle.ppdb_values.specs.{Ranges.{ComesAfter, IsInOrAfter}, Rules.{IsScope, KeepsScopes}, Value.{range_of}}
use Rattle.ppdb_verify_accepted_laws.proofs.{Items.{row_named}, Orders.{sorted_by}}

not_before : (x y : ScopeRow) → ComesAfter (range_of x) (range_of y) → x.start ≤ y.start
not_before x y after = elim after [
  | inl lt ↦ omega (arith, lt)
  | inr same ↦ let e = same.0 in omega (arith, e)
]

-- an earlier scope that ends in a later one
crosses : (x y : ScopeRow) → x.method ≡ y.method → ComesAfter (range_of x) (range_of y) → y.start < x.start + x.length → x.start + x.length < y.start + y.length
    → AreCrossed x y
crosses x y same_method after meets past =
    let up = not_before x y after in
    record {
      one_method = same_method;
      shared = y.start;
      in_both = ((up, meets), (omega arith, omega (arith, meets, past)));
      first = λ all. let in_x = (all (x.start + x.length) (omega (arith, meets), past)).1 in omega (arith, in_x);
      second = λ all.
          let in_y = (all x.start (omega arith, omega (arith, up, meets))).0 in
          elim after [
            | inl lt ↦ omega (arith, lt, in_y)
            | inr same ↦ let e = same.0 in let shorter = same.1 in omega (arith, e, shorter, past)
          ];
    }

module _ (raw : RawTables) (accepted : IsAccepted (RowFaults raw)) where
  module _ (row : ℕ) (x : ScopeRow) (here : row_at raw.scopes row ≡ Some x) where
    pub no_fault : {column byte : ℕ} {code : Code} → ScopeFault raw row x column byte code → ⊥
    no_fault fault = accepted _ _ (in_scope here fault)

    kept : IsScope raw x
    kept = record {
      method = row_named 1 (count raw 0x06) x.method (λ none. no_fault (no_method none));
      import = (row_named 0 (count raw 0x35) x.import (λ none. no_fault (no_import none))).1;
      not_empty = elim (cases_lt 0 x.length) [ inl some ↦ some | inr none ↦ absurd (no_fault (no_range (inl (omega (arith, none))))) ];
      end = elim (cases_lt (x.start + x.length) 0x80000000) [ inl within ↦ within | inr late ↦ absurd (no_fault (no_range (inr late))) ];
    }

  module _ (a b : ℕ) (x y : ScopeRow) (hx : row_at raw.scopes a ≡ Some x) (hy : row_at raw.scopes b ≡ Some y) (less : a < b) where
    not_above : IsAbove x y → ⊥
    not_above above = no_fault b y hy (out_of_order (record { before = a; earlier = x; there = hx; sooner = less; forbidden = above }))

    method_up : x.method ≤ y.method
    method_up = elim (cases_lt y.method x.method) [
      | inl lt ↦ absurd (not_above (inl lt))
      | inr le ↦ le
    ]

    comes_after : x.method ≡ y.method → ComesAfter (range_of x) (range_of y)
    comes_after same = elim (cases_lt x.start y.start) [
      | inl later ↦ inl later
      | inr from ↦ elim (cases_lt y.start x.start) [
        | inl below ↦ absurd (not_above (inr (sym same, inl below)))
        | inr up ↦
            let e : x.start ≡ y.start = omega (arith, from, up) in
            inr (
              e,
              elim (cases_lt (x.start + x.length) (y.start + y.length)) [
                | inl longer ↦ absurd (not_above (inr (sym same, inr (sym e, longer))))
                | inr shorter ↦ shorter
              ],
            )
      ]
    ]

    in_or_after : x.method ≡ y.method → IsInOrAfter (range_of x) (range_of y)
    in_or_after same = elim (cases_lt (x.start + x.length) (y.start + y.length)) [
      | inl past ↦ elim (cases_lt y.start (x.start + x.length)) [
        | inl meets ↦ absurd (no_fault b y hy (crossing
            (record { before = a; earlier = x; there = hx; sooner = less; forbidden = crosses x y same (comes_after same) meets past })))
        | inr after ↦ inr after
      ]
      | inr within ↦ inl within
    ]

  pub scopes_kept : KeepsScopes raw
  scopes_kept = record {
    each = kept;
    by_method = sorted_by (λ scope. scope.method) raw.scopes method_up;
    by_start = comes_after;
    nested = in_or_after;
  }
