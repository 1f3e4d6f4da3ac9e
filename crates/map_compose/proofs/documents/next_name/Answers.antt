use Rattle.std.{proofs.Common.{ap, sym, ◌∙◌}, specs.Prelude.{option_copied}}
use Rattle.map_compose.{specs.Composed.{named}, proofs.Names.{left_none, left_own, left_other, left_less, left_more, left_same}}
use Rattle.map_compose.proofs.documents.next_name.Goals as goal

pub returns-in-None-None : goal.returns-in-None-None
returns-in-None-None c = left_none (named c.args.first.now) (named c.args.second.now) c.facts.ensures.ascends.documents c.facts-2.ensures.ascends.documents
    c.args.passed.now.own c.args.passed.now.other
    (sym c.name_at-own.ensures ∙ ap option_copied c.in-None-None.is-0) (sym c.name_at-other.ensures ∙ ap option_copied c.in-None-None.is-1)

pub returns-in-None-Some : goal.returns-in-None-Some
returns-in-None-Some c = left_other (named c.args.first.now) (named c.args.second.now) c.facts.ensures.ascends.documents c.facts-2.ensures.ascends.documents
    c.args.passed.now.own c.args.passed.now.other c.in-None-Some.other.now
    (sym c.name_at-own.ensures ∙ ap option_copied c.in-None-Some.is-0) (sym c.name_at-other.ensures ∙ ap option_copied c.in-None-Some.is-1)

pub returns-in-Some-None : goal.returns-in-Some-None
returns-in-Some-None c = left_own (named c.args.first.now) (named c.args.second.now) c.facts.ensures.ascends.documents c.facts-2.ensures.ascends.documents
    c.args.passed.now.own c.args.passed.now.other c.in-Some-None.own.now
    (sym c.name_at-own.ensures ∙ ap option_copied c.in-Some-None.is-0) (sym c.name_at-other.ensures ∙ ap option_copied c.in-Some-None.is-1)

pub returns-in-Less : goal.returns-in-Less
returns-in-Less c = left_less (named c.args.first.now) (named c.args.second.now) c.facts.ensures.ascends.documents c.facts-2.ensures.ascends.documents
    c.args.passed.now.own c.args.passed.now.other c.in-Some-Some.own.now c.in-Some-Some.other.now
    (sym c.name_at-own.ensures ∙ ap option_copied c.in-Some-Some.is-0) (sym c.name_at-other.ensures ∙ ap option_copied c.in-Some-Some.is-1)
    (sym c.in-Less.ensures)

pub returns-in-Equal : goal.returns-in-Equal
returns-in-Equal c = left_same (named c.args.first.now) (named c.args.second.now) c.facts.ensures.ascends.documents c.facts-2.ensures.ascends.documents
    c.args.passed.now.own c.args.passed.now.other c.in-Some-Some.own.now c.in-Some-Some.other.now
    (sym c.name_at-own.ensures ∙ ap option_copied c.in-Some-Some.is-0) (sym c.name_at-other.ensures ∙ ap option_copied c.in-Some-Some.is-1)
    (sym c.in-Equal.ensures)

pub returns-in-Greater : goal.returns-in-Greater
returns-in-Greater c = left_more (named c.args.first.now) (named c.args.second.now) c.facts.ensures.ascends.documents c.facts-2.ensures.ascends.documents
    c.args.passed.now.own c.args.passed.now.other c.in-Some-Some.own.now c.in-Some-Some.other.now
    (sym c.name_at-own.ensures ∙ ap option_copied c.in-Some-Some.is-0) (sym c.name_at-other.ensures ∙ ap option_copied c.in-Some-Some.is-1)
    (sym c.in-Greater.ensures)
