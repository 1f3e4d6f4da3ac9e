use Rattle.ppdb_verify.specs.Views.{raw_file}
use Rattle.std.proofs.Common.{sym, ◌∙◌}
use Rattle.ppdb_queries.proofs.PointLists.{last_is, last_there, points_held, signature_held}
use Rattle.ppdb_queries.proofs.points.point_at.Goals as goal

pub document-document-requires : goal.document-document-requires
document-document-requires g c =
    let raw = raw_file c.args.file.now in
    record {
      there = last_there raw.tables c.in-Some.points.left.items c.args.offset c.in-Some-last_not_after.point c.in-Some.ensures.2
          (sym c.last_not_after.ensures ∙ c.in-Some-last_not_after.is);
    }

pub returns-clause-point : goal.returns-clause-point
returns-clause-point g c =
    let raw = raw_file c.args.file.now in
    record {
      point = last_is raw c.args.method c.args.offset c.in-Some.points.left.items c.last_not_after.result _
          (points_held raw c.args.method c.in-Some.points c.in-Some.ensures) c.last_not_after.ensures c.in-Some-last_not_after.is;
      signature = c.signature-signature.ensures ∙ signature_held raw c.args.method c.in-Some.points c.in-Some.ensures;
      document = c.document-document.result;
      document_there = c.document-document.ensures.row;
      name = c.name-name.ensures;
    }
