use Rattle.std.proofs.Common.{◌≡◌, Some, sym}
use Rattle.ppdb_heaps.specs.Heaps.{blob_at}
use Rattle.ppdb_tables.specs.RawOf.{raw_of}
use Rattle.type_blobs.specs.Constants.{constants}
use Rattle.ppdb_verify_rules.{specs.Blobs.{type_limits}, proofs.BlobFaults.{not_whole, value_there}, proofs.ConstantFaults.{no_signature_first}}
use Rattle.ppdb_verify_rules.proofs.ConstantFaults.{invalid_signature_first, next_1}
use Rattle.ppdb_verify_rules.proofs.constants.judge_signature.Goals as goal

pub returns-in_default-clause-err : goal.returns-in_default-clause-err
returns-in_default-clause-err c = no_signature_first (raw_of c.args.tables.now) c.args.row c.args.constant.now c.requires.there c.fault.result c.requires.judged
    (sym (rw c.blobs.ensures at c.in_default.ensures.blob)) c.fault.ensures

pub returns-in-Some-constant_fault-clause-err : goal.returns-in-Some-constant_fault-clause-err
returns-in-Some-constant_fault-clause-err c =
    let there : blob_at (raw_of c.args.tables.now).blobs c.args.constant.now.signature ≡ Some c.in-Some.content.now =
    sym (rw c.blobs.ensures at c.in-Some.ensures.blob) in
    invalid_signature_first (raw_of c.args.tables.now) c.args.row c.args.constant.now c.requires.there c.fault_within.result c.in-Some-constant_fault.inside
    c.requires.judged
    (record { content = c.in-Some.content.now; there = there; reads = c.in-Some-constant_fault.ensures }) c.fault_within.ensures

pub returns-in-None-clause-ok : goal.returns-in-None-clause-ok
returns-in-None-clause-ok c =
    let there : blob_at (raw_of c.args.tables.now).blobs c.args.constant.now.signature ≡ Some c.in-Some.content.now =
    sym (rw c.blobs.ensures at c.in-Some.ensures.blob) in
    next_1 (raw_of c.args.tables.now) c.args.row c.args.constant.now c.requires.there c.requires.judged
    (value_there (raw_of c.args.tables.now).blobs c.in-Some.content.now c.args.constant.now.signature there)
    (λ fault invalid. not_whole {g = constants (type_limits (raw_of c.args.tables.now))} c.in-Some.content.now there c.in-None.ensures invalid)
