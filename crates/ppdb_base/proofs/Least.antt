-- A fault is the first one, or has a first one before it.
use Rattle.std.proofs.Common.{◌≡◌, ℕ, zero, suc, ◌<◌, List, [], ◌∷◌, length, refl, sym, subst, arith, inl, inr}
use Rattle.ppdb_base.specs.{declared.code.Code.{Code}, declared.fault.Place.{Place}, Place.{ComesBefore, numbers}, First.{AcceptedWithoutFirst}}

by_order : (n : ℕ) (P : List ℕ → Type 0)
    → ((ns : List ℕ) → length ns ≡ n → ((ms : List ℕ) → length ms ≡ n → ComesBefore ms ns → P ms) → P ns)
    → (ns : List ℕ) → length ns ≡ n → P ns
by_order zero P step [] e = step [] e (λ ms em before. absurd before)
by_order zero P step (x ∷ xs) e = absurd (omega (arith, e))
by_order (suc n) P step [] e = absurd (omega (arith, e))
by_order (suc n) P step (x ∷ xs) e = below (λ Q. by_order n Q) (suc x) x (omega arith) xs (omega (arith, e))
  where
    at : (y : ℕ) (rest : List ℕ) → ((z : ℕ) → z < y → (zs : List ℕ) → length zs ≡ n → P (z ∷ zs))
        → ((ms : List ℕ) → length ms ≡ n → ComesBefore ms rest → P (y ∷ ms))
        → (ms : List ℕ) → length ms ≡ suc n → ComesBefore ms (y ∷ rest) → P ms
    at y rest smaller earlier [] em before = absurd (omega (arith, em))
    at y rest smaller earlier (z ∷ zs) em (inl less) = smaller z less zs (omega (arith, em))
    at y rest smaller earlier (z ∷ zs) em (inr (same, before)) = subst (λ w. P (w ∷ zs)) (sym same) (earlier zs (omega (arith, em)) before)

    below : ((Q : List ℕ → Type 0)
        → ((ns : List ℕ) → length ns ≡ n → ((ms : List ℕ) → length ms ≡ n → ComesBefore ms ns → Q ms) → Q ns)
        → (ns : List ℕ) → length ns ≡ n → Q ns)
        → (k y : ℕ) → y < k → (ys : List ℕ) → length ys ≡ n → P (y ∷ ys)
    below inner zero y h ys ey = absurd (omega (arith, h))
    below inner (suc k) y h ys ey = inner (λ rest. P (y ∷ rest))
        (λ rest er earlier. step (y ∷ rest) (omega (arith, er)) (at y rest (λ z less zs ez. below inner k z (omega (arith, less, h)) zs ez) earlier)) ys ey

pub accepted_without_first : (Faults : Code → Place → Type 0) → AcceptedWithoutFirst Faults
accepted_without_first Faults none code at invalid =
    by_order 6 (λ ns. (c : Code) (a : Place) → numbers c a ≡ ns → Faults c a → ⊥)
    (λ ns e earlier c a same b. none (record { code = c; place = a }) (record {
      invalid = b;
      least = λ c' a' b' before. earlier (numbers c' a') refl (subst (λ z. ComesBefore (numbers c' a') z) same before) c' a' refl b';
    })) (numbers code at) refl code at refl invalid
