use Rattle.std.proofs.{Common.{◌+◌, ◌∙◌, sym}, lemmas.List.{take_rest}}
use Rattle.source_link.proofs.Texts.{cut_at_star, no_star}
use Rattle.source_link.proofs.address.cut_at_star.Goals as goal

pub returns-in_err-star-clause-cut : goal.returns-in_err-star-clause-cut
returns-in_err-star-clause-cut c = rw c.from_residual.ensures (λ rest. no_star rest c.args.address.now (sym c.first_star.ensures ∙ c.in_err-star.was))

pub returns-clause-cut : goal.returns-clause-cut
returns-clause-cut c rest =
    rw (take_rest c.args.address.now (c.in_ok-star.star + 1))
    (cut_at_star rest c.args.address.now c.in_ok-star.star (sym c.first_star.ensures ∙ c.in_ok-star.was)).1
