use Rattle.std.proofs.{Common.{◌≡◌, ℕ, IsTrue, not, nat_eq, Some, sym, ◌∙◌, arith}, lemmas.Bool.Decides.{nat_tests}}
use Rattle.ppdb_tables.specs.{RawOf.{raw_of}, Parents.{parent_in}}
use Rattle.ppdb_verify_rules.{specs.Customs.{parent_table}, proofs.Parents.{other_parent, same_parent}}
use Rattle.ppdb_verify_rules.proofs.customs.has_other_parent.Goals as goal

differs : (a b : ℕ) → IsTrue (not (nat_eq a b)) → a ≡ b → ⊥
differs a b h e = grind (arith, nat_tests)

different : (a b : ℕ) → (a ≡ b → ⊥) → IsTrue (not (nat_eq a b))
different a b h = grind (arith, nat_tests)

pub returns-in-Some-Some : goal.returns-in-Some-Some
returns-in-Some-Some c =
    let table : parent_table c.args.kind ≡ Some c.in-Some-Some.table = sym c.table_of_parents.ensures ∙ c.in-Some-Some.is-0 in
    let parent : parent_in c.args.custom.now.parent ≡ Some c.in-Some-Some.parent = sym c.parent_of.ensures ∙ c.in-Some-Some.is-1 in (
      (λ yes. other_parent (raw_of c.args.tables.now).guids c.args.custom.now c.args.kind c.in-Some-Some.table c.in-Some-Some.parent c.requires table parent
          (differs c.in-Some-Some.parent.table c.in-Some-Some.table yes)),
      (λ other. different c.in-Some-Some.parent.table c.in-Some-Some.table
          (λ same. same_parent (raw_of c.args.tables.now).guids c.args.custom.now c.args.kind c.in-Some-Some.table c.in-Some-Some.parent c.requires table parent
          same other)),
    )
