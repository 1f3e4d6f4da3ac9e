-- Halving a table that is sorted.
use Rattle.std.proofs.Common.{◌≡◌, ℕ, suc, ◌+◌, ◌-◌, ◌<◌, ◌≤◌, List, length, arith, slice_index, subst}
use Rattle.ppdb_values.specs.Ordered.{IsSorted}
use Rattle.ppdb_queries.proofs.Powers.{Halved, halved, unhalved}

-- a row whose key is below: so are all before it
pub all_below : (keys : List ℕ) (wanted row key : ℕ) → IsSorted keys → key ≡ slice_index keys (row - 1) → 1 ≤ row → row ≤ length keys → key < wanted
    → (i : ℕ) → i + 1 < row + 1 → slice_index keys i < wanted
all_below keys wanted row key sorted is from to below i here =
    let h : slice_index keys i ≤ slice_index keys (row - 1) = sorted i (row - 1) (omega arith) (omega arith) in
    omega (arith, h)

-- a row whose key is not below: no more are all after it
pub all_above : (keys : List ℕ) (wanted row key : ℕ) → IsSorted keys → key ≡ slice_index keys (row - 1) → 1 ≤ row → row ≤ length keys → wanted ≤ key
    → (i : ℕ) → row ≤ i + 1 → i < length keys → wanted ≤ slice_index keys i
all_above keys wanted row key sorted is from to above i here inside =
    let h : slice_index keys (row - 1) ≤ slice_index keys i = sorted (row - 1) i (omega arith) inside in
    omega (arith, h)

-- one more probe
pub probed : (rows before steps next left less : ℕ) → Halved rows (steps - before) left → next ≡ steps + 1 → before ≤ steps → 1 ≤ left → less + less ≤ left
    → Halved rows (next - before) less
probed rows before steps next left less h tick later some half =
    let e : suc (steps - before) ≡ next - before = omega arith in
    subst (λ (t : ℕ). Halved rows t less) e (halved rows (steps - before) left less h some half)

-- no probe yet
pub unprobed : (rows before left : ℕ) → left ≤ rows → Halved rows (before - before) left
unprobed rows before left h =
    let none : 0 ≡ before - before = omega arith in
    subst (λ (t : ℕ). Halved rows t left) none (unhalved rows left h)
