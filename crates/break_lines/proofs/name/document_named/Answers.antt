use Rattle.std.{proofs.Common.{◌≡◌, ◌∙◌, ap, sym, arith, true, false}, specs.Str.{bytes_eq}}
use Rattle.ppdb_values.specs.Documents.{document_of}
use Rattle.ppdb_verify.specs.Views.{raw_file}
use Rattle.break_lines.proofs.Documents.{named_here, named_nowhere, others_more}
use Rattle.break_lines.proofs.name.document_named.Goals as goal

pub returns-then-has_name-clause-row : goal.returns-then-has_name-clause-row
returns-then-has_name-clause-row g c =
    let raw = raw_file c.args.file.now in
    let is : bytes_eq (document_of raw.tables c.document-cells.result).name c.args.name.now ≡ true =
    ap (λ name. bytes_eq name c.args.name.now) c.name.ensures.text ∙ sym c.has_name.ensures ∙ c.if-has_name.true in
    named_here raw c.args.name.now c.rows.row c.document-cells.result c.document-cells.ensures.row c.rows.invariant.others is

pub rows-preserved : goal.rows-preserved
rows-preserved g c =
    let raw = raw_file c.args.file.now in
    let other : bytes_eq (document_of raw.tables c.document-cells.result).name c.args.name.now ≡ false =
    ap (λ name. bytes_eq name c.args.name.now) c.name.ensures.text ∙ sym c.has_name.ensures ∙ c.if-has_name.false in
    let before = c.rows.invariant.cost in let later = c.rows.invariant.later in let step = c.document-cells.ensures.step in
    record {
      later = omega (arith, later, step);
      cost = omega (arith, before, step);
      others = others_more raw c.args.name.now c.rows.row c.document-cells.result c.document-cells.ensures.row c.rows.invariant.others other;
    }

pub returns-clause-row : goal.returns-clause-row
returns-clause-row g c =
    let raw = raw_file c.args.file.now in
    let shape = c.facts.ensures.rules.shape.documents in let count = c.count-row-end.ensures.rows in let end = c.rows-test.false in
    named_nowhere raw c.args.name.now c.rows.row (omega (arith, shape, count, end)) c.rows.invariant.others
