use Rattle.std.proofs.Common.{◌≡◌, take, fold}
use Rattle.ppdb_build_draft.specs.Draft.{with_document}
use Rattle.ppdb_build.proofs.parts.add_documents.Given as goal

abbrev pub invariant-loop-document : goal.invariant-loop-document
invariant-loop-document l = l.draft ≡ fold with_document l.initial.draft (take l.document-index l.documents)
