use Rattle.std.proofs.Common.{◌++◌, ◌∙◌, ap, sym, append_assoc}
use Rattle.source_link.{specs.Address.{turned}, proofs.Texts.{one_star, on_ok}}
use Rattle.source_link.proofs.address.append_with_rest.Goals as goal

pub stars-preserved : goal.stars-preserved
stars-preserved c =
    let rest = turned c.args.rest.now in let prefix = c.in-Some.prefix.now in
    let more = c.append_turned.ensures.prefix in let before = c.stars.invariant.more in
    record {
      more = (
        (before.0 ++ prefix) ++ more.0,
        more.1 ∙ ap (λ l. l ++ more.0) (c.in_ok-append.ensures.ok ∙ ap (λ l. l ++ prefix) before.1) ∙ simp append_assoc,
      );
      same = one_star rest c.stars.into c.stars.left.now prefix c.in-Some.after.now c.append_turned.new.into (c.in-Some.ensures.cut rest)
          (c.in_ok-append_turned.ensures.ok ∙ ap (λ l. l ++ rest) c.in_ok-append.ensures.ok) ∙ c.stars.invariant.same;
    }

pub returns-clause-ok : goal.returns-clause-ok
returns-clause-ok c =
    let rest = turned c.args.rest.now in
    on_ok c.append-2.result (λ put. put ∙ ap (λ l. c.stars.into ++ l) (sym (c.in_default.ensures.cut rest)) ∙ c.stars.invariant.same) c.append-2.ensures.ok
