use Rattle.std.proofs.{Common.{arith}, lemmas.List.{length-map}}
use Rattle.ppdb_values.specs.{Documents.{document_of}, Value.{value_of}}
use Rattle.ppdb_verify.specs.Views.{raw_file}
use Rattle.ppdb_values_reading.proofs.Rows.{made_more, made_all}
use Rattle.ppdb_values_reading.proofs.value.documents.Goals as goal

pub rows-preserved : goal.rows-preserved
rows-preserved g c =
    record {
      from = omega arith;
      to = omega arith;
      made = made_more (value_of (raw_file c.args.file.now)).documents c.rows.documents c.push.new.self c.rows.row c.in_ok-document_value.field-0
          c.in_ok-document_value.ensures.document c.rows.invariant.made c.in_ok-push.ensures.ok;
      cost = omega arith;
    }

pub returns-clause-documents : goal.returns-clause-documents
returns-clause-documents g c =
    let raw = raw_file c.args.file.now in
    let many = length-map raw.tables.documents (document_of raw.tables) in
    made_all (value_of raw).documents c.rows.documents c.rows.row (omega (arith, many, c.facts.ensures.rules.shape.documents)) c.rows.invariant.made
