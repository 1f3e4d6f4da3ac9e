use Rattle.std.{proofs.Common.{◌≡◌, ◌||◌, Some, ap, ◌∙◌}, specs.Prelude.{nat_eq}}
use Rattle.ppdb_maps.{specs.BitSets.{has_number}, proofs.Adding.{method_closed}}
use Rattle.ppdb_maps.proofs.draft.Draft.close.Goals as goal

pub returns-in_ok-push : goal.returns-in_ok-push
returns-in_ok-push c = λ before holds.
    let is : c.args.self.now.current ≡ Some c.in-Some.method = cc (c.take.ensures.value, c.in-Some.is) in
    rw c.take.ensures.after
    (method_closed before c.args.self.now c.push.new.self c.insert.new.self c.in-Some.method holds is c.in_ok-push.ensures.items
    (λ a. c.in_ok-insert.ensures a ∙ ap (λ n. nat_eq n a || has_number c.args.self.now.listed a) c.number.ensures))
