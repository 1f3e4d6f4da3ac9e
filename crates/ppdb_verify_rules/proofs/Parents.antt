-- The tables of coded parents have small numbers.
use Rattle.std.proofs.Common.{◌≡◌, ℕ, zero, suc, ◌<◌, ◌%◌, ◌/◌, List, [], ◌∷◌, Option, Some, None, slice_get, length, refl, sym, ap, ◌∙◌, subst, arith}
use Rattle.std.{proofs.lemmas.Option.{slice_get_within}, specs.Option.{option_map}}
use Rattle.row_layout.specs.Columns.{parent_tables}
use Rattle.custom_info.specs.declared.kinds.Kind.{Kind}
use Rattle.ppdb_tables.specs.{declared.rows.CustomRow.{CustomRow}, declared.parent.Parent.{Parent}, Parents.{parent_in}}
use Rattle.ppdb_verify_rules.{specs.Customs.{HasOtherParent, IsOfKind, parent_table}, proofs.BlobFaults.{one_kind}}

AllSmall : List ℕ → Type 0
AllSmall [] = Unit {0}
AllSmall (t ∷ ts) = (t < 64) × AllSmall ts

all_small : AllSmall parent_tables
unfolding AllSmall
all_small = (
  omega arith,
  (
    omega arith,
    (
      omega arith,
      (
        omega arith,
        (
          omega arith,
          (
            omega arith,
            (
              omega arith,
              (
                omega arith,
                (
                  omega arith,
                  (
                    omega arith,
                    (
                      omega arith,
                      (
                        omega arith,
                        (
                          omega arith,
                          (
                            omega arith,
                            (
                              omega arith,
                              (
                                omega arith,
                                (
                                  omega arith,
                                  (
                                    omega arith,
                                    (
                                      omega arith,
                                      (
                                        omega arith,
                                        (
                                          omega arith,
                                          (omega arith, (omega arith, (omega arith, (omega arith, (omega arith, (omega arith, tt)))))),
                                        ),
                                      ),
                                    ),
                                  ),
                                ),
                              ),
                            ),
                          ),
                        ),
                      ),
                    ),
                  ),
                ),
              ),
            ),
          ),
        ),
      ),
    ),
  ),
)

small_at : (tables : List ℕ) (i table : ℕ) → AllSmall tables → slice_get tables i ≡ Some table → table < 64
unfolding AllSmall
small_at [] i table all h = let w : i < length {A = ℕ} [] = slice_get_within [] i table h in absurd (omega (arith, w))
small_at (t ∷ ts) zero table all h = let e : t ≡ table = cc in subst (λ (n : ℕ). n < 64) e all.0
small_at (t ∷ ts) (suc i) table all h = small_at ts i table all.1 h

pub small_table : (coded : ℕ) (parent : Parent) → parent_in coded ≡ Some parent → parent.table < 64
small_table coded parent h = split (slice_get parent_tables (coded % 32)) (λ table e. small_at parent_tables (coded % 32) table all_small e) h
  where
    split : (o : Option ℕ) → ((table : ℕ) → o ≡ Some table → table < 64)
        → option_map (λ (table : ℕ). record { table = table; row = coded / 32 }) o ≡ Some parent → parent.table < 64
    split (Some table) small e =
        let same : record { table = table; row = coded / 32 } ≡ parent = cc in subst (λ (p : Parent). p.table < 64) same (small table refl)
    split None small e = let wrong : None ≡ Some parent = e in cc

-- a parent of another table, and one of the kind's table
pub other_parent : (guids : List ℕ) (custom : CustomRow) (kind : Kind) (table : ℕ) (parent : Parent) → IsOfKind guids custom.kind kind
    → parent_table kind ≡ Some table
    → parent_in custom.parent ≡ Some parent → (parent.table ≡ table → ⊥) → HasOtherParent guids custom
other_parent guids custom kind table parent of has coded unlike = record {
  kind = kind;
  of_kind = of;
  table = table;
  has_table = has;
  other = λ same. unlike (tagged (slice_get parent_tables (custom.parent % 32)) same coded);
}
  where
    tagged : (o : Option ℕ) → o ≡ Some table → option_map (λ (table : ℕ). record { table = table; row = custom.parent / 32 }) o ≡ Some parent
        → parent.table ≡ table
    tagged (Some t) e c =
        let same : record { table = t; row = custom.parent / 32 } ≡ parent = cc in
        let tables : t ≡ parent.table = ap (λ (p : Parent). p.table) same in
        let u : t ≡ table = cc in sym tables ∙ u
    tagged None e c = absurd cc

pub same_parent : (guids : List ℕ) (custom : CustomRow) (kind : Kind) (table : ℕ) (parent : Parent) → IsOfKind guids custom.kind kind
    → parent_table kind ≡ Some table
    → parent_in custom.parent ≡ Some parent → parent.table ≡ table → HasOtherParent guids custom → ⊥
same_parent guids custom kind table parent of has coded same h =
    let kinds : h.kind ≡ kind = one_kind guids custom.kind h.kind kind h.of_kind of in
    let has2 : parent_table kind ≡ Some h.table = subst (λ (k : Kind). parent_table k ≡ Some h.table) kinds h.has_table in
    let tables : h.table ≡ table = cc (has, has2) in
    h.other (tagged (slice_get parent_tables (custom.parent % 32)) coded (same ∙ sym tables))
  where
    tagged : (o : Option ℕ) → option_map (λ (table : ℕ). record { table = table; row = custom.parent / 32 }) o ≡ Some parent → parent.table ≡ h.table
        → o ≡ Some h.table
    tagged (Some t) c e =
        let is : record { table = t; row = custom.parent / 32 } ≡ parent = cc in
        let u : t ≡ parent.table = ap (λ (p : Parent). p.table) is in ap Some (u ∙ e)
    tagged None c e = absurd cc
