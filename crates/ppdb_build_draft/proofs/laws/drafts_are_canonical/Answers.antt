use Rattle.ppdb_build_draft.proofs.Whole as whole
use Rattle.ppdb_build_draft.proofs.laws.drafts_are_canonical.Goals as goal

pub returns : goal.returns
returns c = whole.drafts_are_canonical
