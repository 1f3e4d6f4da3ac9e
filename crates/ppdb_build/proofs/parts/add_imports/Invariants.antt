use Rattle.std.proofs.Common.{◌≡◌, take, fold}
use Rattle.ppdb_build_draft.specs.Draft.{with_import}
use Rattle.ppdb_build.proofs.parts.add_imports.Given as goal

abbrev pub invariant-loop-scope : goal.invariant-loop-scope
invariant-loop-scope l = l.draft ≡ fold with_import l.initial.draft (take l.scope-index l.imports)
