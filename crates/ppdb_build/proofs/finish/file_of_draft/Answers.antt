use Rattle.std.proofs.Common.{sym, subst, ◌∙◌}
use Rattle.ppdb_base.specs.First.{IsAccepted}
use Rattle.ppdb_verify.specs.Files.{FileFaults, IsRawOf}
use Rattle.ppdb_build_canon.specs.Canon.{chosen_id, with_id}
use Rattle.ppdb_build_written_laws.specs.Written.{Says}
use Rattle.ppdb_build.proofs.Finished.{limit_is, file_is}
use Rattle.ppdb_build.proofs.finish.file_of_draft.Goals as goal

pub returns-in-Some-clause-limit : goal.returns-in-Some-clause-limit
returns-in-Some-clause-limit c = λ value is.
    limit_is value c.args.head.now c.args.draft.now is c.counts_of-counts.result c.counts_of-counts.ensures c.draft_len-len.result c.span.result _
    c.draft_len-len.ensures c.span.ensures c.in-Some.ensures

pub can_be_laid-requires-clause-none : goal.can_be_laid-requires-clause-none
can_be_laid-requires-clause-none c = λ value is.
    limit_is value c.args.head.now c.args.draft.now is c.counts_of-counts.result c.counts_of-counts.ensures c.draft_len-len.result c.span.result _
    c.draft_len-len.ensures c.span.ensures c.in-None.ensures

pub returns-clause-within : goal.returns-clause-within
returns-clause-within c = λ value is.
    limit_is value c.args.head.now c.args.draft.now is c.counts_of-counts.result c.counts_of-counts.ensures c.draft_len-len.result c.span.result _
    c.draft_len-len.ensures c.span.ensures c.in-None.ensures

pub returns-clause-written : goal.returns-clause-written
returns-clause-written c = λ value is.
    c.in_ok-file.ensures
    ∙ file_is value c.args.head.now c.args.draft.now c.args.id c.counts_of-counts.result is (c.can_be_laid.ensures.file value is)

pub returns-clause-accepted : goal.returns-clause-accepted
returns-clause-accepted c =
    let value = c.requires.value in
    let is = c.requires.is in
    let within = limit_is value c.args.head.now c.args.draft.now is c.counts_of-counts.result c.counts_of-counts.ensures c.draft_len-len.result c.span.result _
    c.draft_len-len.ensures c.span.ensures c.in-None.ensures in
    let written = c.in_ok-file.ensures
    ∙ file_is value c.args.head.now c.args.draft.now c.args.id c.counts_of-counts.result is (c.can_be_laid.ensures.file value is) in
    subst (λ bytes. IsAccepted (FileFaults bytes)) (sym written)
    (c.written_files_are_valid.ensures value c.args.id is.sound is.types within).accepted

pub returns-clause-reread : goal.returns-clause-reread
returns-clause-reread c = λ value is.
    let within = limit_is value c.args.head.now c.args.draft.now is c.counts_of-counts.result c.counts_of-counts.ensures c.draft_len-len.result c.span.result _
    c.draft_len-len.ensures c.span.ensures c.in-None.ensures in
    let written = c.in_ok-file.ensures
    ∙ file_is value c.args.head.now c.args.draft.now c.args.id c.counts_of-counts.result is (c.can_be_laid.ensures.file value is) in
    subst (λ bytes. Says bytes (with_id value (chosen_id value c.args.id))) (sym written)
    (c.written_files_are_valid.ensures value c.args.id is.sound is.types within).says

pub returns-clause-again : goal.returns-clause-again
returns-clause-again c = λ value is again is_raw.
    let within = limit_is value c.args.head.now c.args.draft.now is c.counts_of-counts.result c.counts_of-counts.ensures c.draft_len-len.result c.span.result _
    c.draft_len-len.ensures c.span.ensures c.in-None.ensures in
    let written = c.in_ok-file.ensures
    ∙ file_is value c.args.head.now c.args.draft.now c.args.id c.counts_of-counts.result is (c.can_be_laid.ensures.file value is) in
    c.written_files_are_canonical.ensures value c.args.id is.sound is.types within again (subst (λ bytes. IsRawOf bytes again) written is_raw)
