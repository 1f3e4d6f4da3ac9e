use Rattle.std.proofs.Common.{◌≡◌, ◌∙◌, Some, List, ℕ, ap, sym, subst}
use Rattle.ppdb_heaps.specs.{Heaps.{blob_at}, Names.{IsName}}
use Rattle.ppdb_tables.specs.RawOf.{raw_of}
use Rattle.ppdb_verify_rules.proofs.{BlobFaults.{no_length, not_nil, value_there}, DocumentFaults.{no_name_first, nil_name_first, invalid_name_first}}
use Rattle.ppdb_verify_rules.proofs.documents.whole_name.Goals as goal

pub returns-in_default-clause-err : goal.returns-in_default-clause-err
returns-in_default-clause-err c = no_name_first (raw_of c.args.tables.now) c.args.row c.args.document.now c.requires.there c.fault.result c.requires.judged
    (sym (rw c.blobs.ensures at c.in_default.ensures.blob)) c.fault.ensures

pub returns-then-content-eq0-clause-err : goal.returns-then-content-eq0-clause-err
returns-then-content-eq0-clause-err c =
    let there : blob_at (raw_of c.args.tables.now).blobs c.args.document.now.name ≡ Some c.in-Some.content.now =
    sym (rw c.blobs.ensures at c.in-Some.ensures.blob) in
    nil_name_first (raw_of c.args.tables.now) c.args.row c.args.document.now c.requires.there c.fault-then-content-eq0.result c.requires.judged
    (value_there (raw_of c.args.tables.now).blobs c.in-Some.content.now c.args.document.now.name there)
    (there ∙ ap Some (no_length c.in-Some.content.now c.if-content-eq0.true)) c.fault-then-content-eq0.ensures

pub returns-in-Err-Blob-clause-err : goal.returns-in-Err-Blob-clause-err
returns-in-Err-Blob-clause-err c =
    let there : blob_at (raw_of c.args.tables.now).blobs c.args.document.now.name ≡ Some c.in-Some.content.now =
    sym (rw c.blobs.ensures at c.in-Some.ensures.blob) in
    let refusal = rw c.in-Err-Blob.field-0-is at c.in-Err-Blob.ensures.fault in
    invalid_name_first (raw_of c.args.tables.now) c.args.row c.args.document.now c.requires.there c.fault_within.result c.in-Err-Blob.inside c.requires.judged
    (not_nil (raw_of c.args.tables.now).blobs c.in-Some.content.now c.args.document.now.name there c.if-content-eq0.false)
    (record { content = c.in-Some.content.now; there = there; reads = rw c.blobs-2.ensures at refusal }) c.fault_within.ensures

pub returns-in-Ok-clause-some : goal.returns-in-Ok-clause-some
returns-in-Ok-clause-some c =
    let there : blob_at (raw_of c.args.tables.now).blobs c.args.document.now.name ≡ Some c.in-Some.content.now =
    sym (rw c.blobs.ensures at c.in-Some.ensures.blob) in
    not_nil (raw_of c.args.tables.now).blobs c.in-Some.content.now c.args.document.now.name there c.if-content-eq0.false

pub returns-in-Ok-clause-name : goal.returns-in-Ok-clause-name
returns-in-Ok-clause-name c = (
  c.in-Some.content.now,
  sym (rw c.blobs.ensures at c.in-Some.ensures.blob),
  subst (λ (b : List ℕ). IsName b c.in-Some.content.now c.in-Ok.name.items) c.blobs-2.ensures c.in-Ok.ensures.ok,
)
