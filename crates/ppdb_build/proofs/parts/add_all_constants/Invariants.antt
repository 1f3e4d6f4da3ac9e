use Rattle.std.proofs.Common.{◌≡◌, take, fold}
use Rattle.ppdb_build_draft.specs.Draft.{with_constants}
use Rattle.ppdb_build.proofs.parts.add_all_constants.Given as goal

abbrev pub invariant-loop-scope : goal.invariant-loop-scope
invariant-loop-scope l = l.draft ≡ fold with_constants l.initial.draft (take l.scope-index l.scopes)
