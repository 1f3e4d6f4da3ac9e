use Rattle.std.proofs.{Common.{sym, ◌∙◌}, lemmas.Bool.{false≢true}}
use Rattle.ppdb_maps.{specs.Forms.{silent}, proofs.Saying.{tells_form, breaks_form, breaks_value}}
use Rattle.ppdb_maps.proofs.reading.said.Goals as goal

pub returns-then-is_silent : goal.returns-then-is_silent
returns-then-is_silent c = silent (c.is_silent.ensures.0 c.if-is_silent.true)

pub returns-in_default : goal.returns-in_default
returns-in_default c = λ before.
    breaks_form c.args.line.now c.words_of-words.result c.args.version before
    (λ s. false≢true (sym c.if-is_silent.false ∙ c.is_silent.ensures.1 s)) c.words_of-words.ensures c.in_default.ensures

pub returns-in-Some-2 : goal.returns-in-Some-2
returns-in-Some-2 c =
    tells_form c.args.line.now c.words_of-words.result c.args.version c.in-Some.form c.in-Some-2.line
    (λ s. false≢true (sym c.if-is_silent.false ∙ c.is_silent.ensures.1 s)) c.words_of-words.ensures c.in-Some.ensures (rw c.in-Some-2.is at c.in_ok-line.ensures)

pub returns-in-None : goal.returns-in-None
returns-in-None c = λ before.
    breaks_value c.args.line.now c.words_of-words.result c.args.version c.in-Some.form before
    (λ s. false≢true (sym c.if-is_silent.false ∙ c.is_silent.ensures.1 s)) c.words_of-words.ensures c.in-Some.ensures (rw c.in-None.is at c.in_ok-line.ensures)
