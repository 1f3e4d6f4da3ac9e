use Rattle.ppdb_build.proofs.Finished.{of_value}
use Rattle.ppdb_build.proofs.write.bytes_of.Goals as goal

pub file_of_draft-requires : goal.file_of_draft-requires
file_of_draft-requires c = record {
  value = c.args.value.now;
  is = of_value c.drafts_are_canonical.ensures c.args.value.now c.args.draft.now c.requires.sound c.requires.types c.requires.early c.requires.steps
      c.requires.draft;
}

pub returns-in-Err-clause-limit : goal.returns-in-Err-clause-limit
returns-in-Err-clause-limit c = c.in-Err.ensures.limit c.args.value.now
    (of_value c.drafts_are_canonical.ensures c.args.value.now c.args.draft.now c.requires.sound c.requires.types c.requires.early
    c.requires.steps c.requires.draft)

pub returns-in-Ok-clause-written : goal.returns-in-Ok-clause-written
returns-in-Ok-clause-written c = c.in-Ok.ensures.written c.args.value.now
    (of_value c.drafts_are_canonical.ensures c.args.value.now c.args.draft.now c.requires.sound c.requires.types c.requires.early
    c.requires.steps c.requires.draft)

pub returns-in-Ok-clause-within : goal.returns-in-Ok-clause-within
returns-in-Ok-clause-within c = c.in-Ok.ensures.within c.args.value.now
    (of_value c.drafts_are_canonical.ensures c.args.value.now c.args.draft.now c.requires.sound c.requires.types c.requires.early
    c.requires.steps c.requires.draft)

pub returns-in-Ok-clause-reread : goal.returns-in-Ok-clause-reread
returns-in-Ok-clause-reread c = c.in-Ok.ensures.reread c.args.value.now
    (of_value c.drafts_are_canonical.ensures c.args.value.now c.args.draft.now c.requires.sound c.requires.types c.requires.early
    c.requires.steps c.requires.draft)

pub returns-in-Ok-clause-again : goal.returns-in-Ok-clause-again
returns-in-Ok-clause-again c = c.in-Ok.ensures.again c.args.value.now
    (of_value c.drafts_are_canonical.ensures c.args.value.now c.args.draft.now c.requires.sound c.requires.types c.requires.early
    c.requires.steps c.requires.draft)
