use Rattle.std.proofs.Common.{◌∷◌, ◌∙◌, ap}
use Rattle.ppdb_run_words.{specs.Words.{texts}, proofs.Choices.{reads_all, reads_keep, reads_free, ends, no_guid, no_word}}
use Rattle.ppdb_run_words.proofs.options.read_options.Goals as goal

pub loop-word-init : goal.loop-word-init
loop-word-init c = reads_all (texts c.args.words.now)

pub loop-word-preserved-in-text : goal.loop-word-preserved-in-text
loop-word-preserved-in-text c =
    reads_keep c.loop-word.keep_id (texts c.loop-word.rest.now) (texts c.in-Some.others.now) (texts c.args.words.now)
    (c.in-Some.ensures.some ∙ ap (λ w. w ∷ texts c.in-Some.others.now) c.in-text.is) c.loop-word.invariant

pub loop-word-preserved : goal.loop-word-preserved
loop-word-preserved c =
    reads_free c.loop-word.keep_id (texts c.loop-word.rest.now) (texts c.in-Some.others.now) (texts c.in-Some-behind_guid.others.now) (texts c.args.words.now)
    (c.in-Some.ensures.some ∙ ap (λ w. w ∷ texts c.in-Some.others.now) c.in-text-2.is) c.in-Some-behind_guid.ensures.guid c.loop-word.invariant

pub returns-clause-options : goal.returns-clause-options
returns-clause-options c =
    ends c.loop-word.keep_id (texts c.loop-word.rest.now) (texts c.args.words.now) c.in_default.ensures.none c.loop-word.invariant

pub returns-in-None-clause-usage : goal.returns-in-None-clause-usage
returns-in-None-clause-usage c = λ options h.
    let others = c.loop-word.invariant.back options h in
    no_guid (texts c.loop-word.rest.now) (texts c.in-Some.others.now) (c.in-Some.ensures.some ∙ ap (λ w. w ∷ texts c.in-Some.others.now) c.in-text-2.is)
    c.in-None.ensures.none others.0 others.1

pub returns-in_default-word-clause-usage : goal.returns-in_default-word-clause-usage
returns-in_default-word-clause-usage c = λ options h.
    let others = c.loop-word.invariant.back options h in
    no_word (texts c.loop-word.rest.now) c.in-Some.word.now (texts c.in-Some.others.now) c.in-Some.ensures.some
    c.in_default-word.not-text c.in_default-word.not-text-2 others.0 others.1
