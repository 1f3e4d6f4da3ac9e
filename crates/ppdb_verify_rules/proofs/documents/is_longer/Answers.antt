use Rattle.std.proofs.Common.{◌≡◌, Some, List, ℕ, sym, subst}
use Rattle.ppdb_heaps.specs.{Heaps.{blob_at}, Names.{IsName}}
use Rattle.ppdb_tables.specs.RawOf.{raw_of}
use Rattle.ppdb_verify_rules.proofs.BlobFaults.{not_nil}
use Rattle.ppdb_verify_rules.proofs.documents.is_longer.Goals as goal

pub returns-in-Ok : goal.returns-in-Ok
returns-in-Ok c = λ longer.
    let there : blob_at (raw_of c.args.tables.now).blobs c.args.document.now.name ≡ Some c.in-Some.content.now =
    sym (rw c.blobs.ensures at c.in-Some.ensures.blob) in
    let found = c.in-Ok.ensures.ok in (
      not_nil (raw_of c.args.tables.now).blobs c.in-Some.content.now c.args.document.now.name there c.if-content-eq0.false,
      (
        found.0,
        (c.in-Some.content.now, there, subst (λ (b : List ℕ). IsName b c.in-Some.content.now found.0) c.blobs-2.ensures found.1),
        found.2.0 longer,
      ),
    )
