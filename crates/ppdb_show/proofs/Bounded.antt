-- The rows that are read for an answer, and what is shown.
use Rattle.std.{proofs.Common.{ℕ, ◌+◌, ◌*◌, ◌≤◌, List, [], ◌∷◌, length, arith}, specs.List.{sum_by}, proofs.Math.Nat.{mul-add, mul-le-mul_right}}
use Rattle.ppdb_tables.specs.RawTables.{RawTables}
use Rattle.ppdb_queries.specs.{declared.scopes.ScopeView.{ScopeView}, Digits.{digits}, Scopes.{scopes_at, scope_count}, Runs.{customs_at}}
use Rattle.ppdb_queries.proofs.Powers.{digits_most}
use Rattle.ppdb_show.specs.{Bound.{with_customs, shown_of_scope, query_rows}, Query.{variables_of, constants_of, imports_of}, QueryWalk.{customs_reads, item_reads}}
use Rattle.ppdb_show.{specs.QueryWalk.{items_reads, scope_reads, scopes_reads}, proofs.Added.{sum_first}}

sum_most : {X : Type 0} (k : ℕ) (f g : X → ℕ) → ((x : X) → f x ≤ k * g x) → (xs : List X) → sum_by f xs ≤ k * sum_by g xs
sum_most k f g each [] = omega arith
sum_most k f g each (x ∷ xs) =
    let first = sum_first f x xs in
    let second = sum_first g x xs in
    let one = each x in
    let more = sum_most k f g each xs in
    let split = mul-add k (g x) (sum_by g xs) in
    rw second (omega (arith, first, one, more, split))

-- a row and the custom records on it
with_most : (d n : ℕ) → 1 + (2 * d + n) ≤ (2 * d + 2) * (1 + n)
with_most d n =
    let e = mul-add (2 * d + 2) 1 n in
    let h : 1 * n ≤ (2 * d + 2) * n = mul-le-mul_right n (omega arith) in
    omega (arith, e, h)

items_most : {X : Type 0} (raw : RawTables) (table : ℕ) (items : List (ℕ × X))
    → items_reads raw table items ≤ (2 * digits (length raw.customs) + 2) * sum_by (λ row. with_customs raw table row.0) items
items_most {X} raw table items =
    sum_most (2 * digits (length raw.customs) + 2) (item_reads raw table) (λ item. with_customs raw table item.0)
    (λ item. with_most (digits (length raw.customs)) (length (customs_at raw table item.0))) items

scope_most : (raw : RawTables) (view : ScopeView) → scope_reads raw view ≤ (2 * digits (length raw.customs) + 2) * shown_of_scope raw view
scope_most raw view =
    let k = 2 * digits (length raw.customs) + 2 in
    let w = with_customs raw 0x32 view.row in
    let a = sum_by (λ row. with_customs raw 0x33 row.0) (variables_of raw view) in
    let b = sum_by (λ row. with_customs raw 0x34 row.0) (constants_of raw view) in
    let d = sum_by (λ row. with_customs raw 0x35 row.0) (imports_of raw view) in
    let first = mul-add k w (a + (b + d)) in
    let second = mul-add k a (b + d) in
    let third = mul-add k b d in
    let one = with_most (digits (length raw.customs)) (length (customs_at raw 0x32 view.row)) in
    let va = items_most raw 0x33 (variables_of raw view) in
    let vb = items_most raw 0x34 (constants_of raw view) in
    let vd = items_most raw 0x35 (imports_of raw view) in
    omega (arith, first, second, third, one, va, vb, vd)

total : (a s b d n h r l : ℕ) → r ≤ (2 * d + 2) * h → l ≤ b → 3 + ((2 * a + 2 * s + r) + ((2 * d + n) + ((l + b) + (2 * d + n)))) ≤ 4 + 2 * a + 2 * s + 2 * b
    + (4 * d + 4) * (1 + (h + n))
total a s b d n h r l reads less =
    let first = mul-add (4 * d + 4) 1 (h + n) in
    let second = mul-add (4 * d + 4) h n in
    let up : (2 * d + 2) * h ≤ (4 * d + 4) * h = mul-le-mul_right h (omega arith) in
    let twice : 2 * n ≤ (4 * d + 4) * n = mul-le-mul_right n (omega arith) in
    omega (arith, reads, less, first, second, up, twice)

-- all that is read is within the bound
pub reads_bounded : (raw : RawTables) (m x : ℕ)
    → 3 + (scopes_reads raw m x + (customs_reads raw 0x06 m + ((digits (length raw.machines) + length raw.machines) + customs_reads raw 0x06 m)))
    ≤ query_rows raw m x
unfolding query_rows
reads_bounded raw m x =
    total (digits (length raw.scopes)) (scope_count raw m) (length raw.machines) (digits (length raw.customs)) (length (customs_at raw 0x06 m))
    (sum_by (shown_of_scope raw) (scopes_at raw m x))
    (sum_by (scope_reads raw) (scopes_at raw m x)) (digits (length raw.machines))
    (sum_most (2 * digits (length raw.customs) + 2) (scope_reads raw) (shown_of_scope raw) (scope_most raw) (scopes_at raw m x))
    (digits_most (length raw.machines))

pub at_least : (raw : RawTables) (m x : ℕ) → 2 ≤ query_rows raw m x
unfolding query_rows
at_least raw m x = omega arith
