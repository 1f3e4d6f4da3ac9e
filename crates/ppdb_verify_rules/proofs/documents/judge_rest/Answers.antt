use Rattle.ppdb_tables.specs.RawOf.{raw_of}
use Rattle.ppdb_verify_rules.proofs.{CellFaults.{refuted}, DocumentFaults.{no_algorithm_first, no_hash_first, no_language_first, next_1, next_2, next_3, past_row}}
use Rattle.ppdb_verify_rules.proofs.documents.judge_rest.Goals as goal

pub returns-then-names_no_guid-clause-err : goal.returns-then-names_no_guid-clause-err
returns-then-names_no_guid-clause-err c =
    no_algorithm_first (raw_of c.args.tables.now) c.args.row c.args.document.now c.requires.there c.fault.result c.requires.judged
    (c.names_no_guid.ensures.0 c.if-names_no_guid.true) c.fault.ensures

pub returns-then-names_no_blob-clause-err : goal.returns-then-names_no_blob-clause-err
returns-then-names_no_blob-clause-err c =
    no_hash_first (raw_of c.args.tables.now) c.args.row c.args.document.now c.requires.there c.fault-then-names_no_blob.result
    (next_1 (raw_of c.args.tables.now) c.args.row c.args.document.now c.requires.there c.requires.judged
    (refuted c.names_no_guid.result c.names_no_guid.ensures c.if-names_no_guid.false))
    (c.names_no_blob.ensures.0 c.if-names_no_blob.true) c.fault-then-names_no_blob.ensures

pub returns-then-names_no_guid-2-clause-err : goal.returns-then-names_no_guid-2-clause-err
returns-then-names_no_guid-2-clause-err c =
    no_language_first (raw_of c.args.tables.now) c.args.row c.args.document.now c.requires.there c.fault-then-names_no_guid-2.result
    (next_2 (raw_of c.args.tables.now) c.args.row c.args.document.now c.requires.there
    (next_1 (raw_of c.args.tables.now) c.args.row c.args.document.now c.requires.there c.requires.judged
    (refuted c.names_no_guid.result c.names_no_guid.ensures c.if-names_no_guid.false))
    (refuted c.names_no_blob.result c.names_no_blob.ensures c.if-names_no_blob.false))
    (c.names_no_guid-2.ensures.0 c.if-names_no_guid-2.true) c.fault-then-names_no_guid-2.ensures

pub returns-clause-ok : goal.returns-clause-ok
returns-clause-ok c = past_row (raw_of c.args.tables.now) c.args.row c.args.document.now c.requires.there
    (next_3 (raw_of c.args.tables.now) c.args.row c.args.document.now c.requires.there
    (next_2 (raw_of c.args.tables.now) c.args.row c.args.document.now c.requires.there
    (next_1 (raw_of c.args.tables.now) c.args.row c.args.document.now c.requires.there c.requires.judged
    (refuted c.names_no_guid.result c.names_no_guid.ensures c.if-names_no_guid.false))
    (refuted c.names_no_blob.result c.names_no_blob.ensures c.if-names_no_blob.false))
    (refuted c.names_no_guid-2.result c.names_no_guid-2.ensures c.if-names_no_guid-2.false))
