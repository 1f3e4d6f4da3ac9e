use Rattle.break_lines.proofs.Names.{first_not, second_prefix}
use Rattle.break_lines.proofs.name.after_both.Goals as goal

pub returns-in_err-strip_prefix : goal.returns-in_err-strip_prefix
returns-in_err-strip_prefix c =
    rw c.from_residual.ensures (λ more. first_not c.args.first.now c.args.second.now c.args.text.now more c.in_err-strip_prefix.ensures.cases)

pub returns : goal.returns
returns c =
    let first = c.in_ok-strip_prefix.ensures.cases in
    second_prefix c.args.first.now c.args.second.now c.args.text.now c.in_ok-strip_prefix.field-0.now c.strip_prefix-2.result first.0 first.1
    c.strip_prefix-2.ensures.cases
