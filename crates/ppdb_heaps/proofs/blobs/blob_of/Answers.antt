use Rattle.blob_grammar.proofs.Stored.{unsigned-refused, refusal}
use Rattle.ppdb_heaps.proofs.Heaps.{counted-short, counted-there, counted-none}
use Rattle.std.proofs.Common.{sym}
use Rattle.ppdb_heaps.proofs.blobs.blob_of.Goals as goal

pub returns-then-bytes-end-clause-blob : goal.returns-then-bytes-end-clause-blob
returns-then-bytes-end-clause-blob c = sym (counted-short c.args.bytes.now c.in-Ok.len c.in-Ok.width c.in-Ok.ensures.found c.if-bytes-end.true)

pub returns-else-bytes-end-clause-blob : goal.returns-else-bytes-end-clause-blob
returns-else-bytes-end-clause-blob c = sym (counted-there c.args.bytes.now c.in-Ok.len c.in-Ok.width c.in-Ok.ensures.found c.if-bytes-end.false)

pub returns-in-Err-clause-blob : goal.returns-in-Err-clause-blob
returns-in-Err-clause-blob c =
    let fault = c.in-Err.field-0 in
    sym (counted-none c.args.bytes.now fault
    (unsigned-refused c.args.bytes.now 0 fault (refusal c.args.bytes.now 0 fault c.in-Err.ensures.form c.in-Err.ensures.end)))
