use Rattle.ppdb_build.proofs.Counted.{draft_guids}
use Rattle.ppdb_build.proofs.finish.guids_are_long.Goals as goal

pub returns : goal.returns
returns c = draft_guids c.requires.value c.args.draft.now c.requires.is.types c.requires.is.is_draft
