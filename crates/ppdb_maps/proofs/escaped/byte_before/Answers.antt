use Rattle.std.proofs.{Common.{sym, ◌∙◌}, lemmas.Option.{IfSome_then}}
use Rattle.ppdb_maps.proofs.Spelled.{nothing_first, plain_there, coded_there, no_byte, none_then, plain_below}
use Rattle.ppdb_maps.proofs.escaped.byte_before.Goals as goal

pub returns-in_default-clause-none : goal.returns-in_default-clause-none
returns-in_default-clause-none c = λ byte rest below is. nothing_first c.args.text.now c.in_default.len_below byte rest is

pub returns-then-stands_for_itself-clause-some : goal.returns-then-stands_for_itself-clause-some
returns-then-stands_for_itself-clause-some c =
    plain_there c.args.text.now c.in-len1-up.len_at_least (sym c.stands_for_itself.ensures ∙ c.if-stands_for_itself.true)

pub returns-clause-some : goal.returns-clause-some
returns-clause-some c = IfSome_then c.code_before.result c.code_before.ensures.some (λ found h. coded_there c.args.text.now found.0 found.1.now h.0 h.1)

pub returns-clause-none : goal.returns-clause-none
returns-clause-none c = none_then c.code_before.result c.code_before.ensures.none
    (no_byte c.args.text.now (sym c.stands_for_itself.ensures ∙ c.if-stands_for_itself.false))

pub returns-then-stands_for_itself-clause-fits : goal.returns-then-stands_for_itself-clause-fits
returns-then-stands_for_itself-clause-fits c = plain_below _ (sym c.stands_for_itself.ensures ∙ c.if-stands_for_itself.true)

pub returns-clause-fits : goal.returns-clause-fits
returns-clause-fits c = c.code_before.ensures.fits
