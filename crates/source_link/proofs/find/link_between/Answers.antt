use Rattle.std.{proofs.Common.{◌≡◌, ◌∙◌, ap, sym, arith, Some, true, false}, specs.Str.{bytes_eq}}
use Rattle.custom_info.specs.Kinds.{source_link}
use Rattle.ppdb_values.specs.Customs.{kind_in}
use Rattle.ppdb_verify.specs.Views.{raw_file}
use Rattle.source_link.proofs.Records.{link_passed, link_found}
use Rattle.source_link.proofs.find.link_between.Goals as goal

pub returns-then-eq-clause-record : goal.returns-then-eq-clause-record
returns-then-eq-clause-record g c =
    let raw = (raw_file c.args.file.now).tables in
    let is : bytes_eq (kind_in raw c.custom-cells.result) source_link ≡ true =
    ap (λ k. bytes_eq k source_link) (sym c.guid_of_kind.ensures) ∙ sym c.eq.ensures ∙ c.if-eq.true in
    ap Some c.blob.ensures.content ∙ sym (link_found raw c.records.row c.args.rows.end c.custom-cells.result c.custom-cells.ensures.row (omega arith) is)
    ∙ c.records.invariant.same

pub records-preserved : goal.records-preserved
records-preserved g c =
    let raw = (raw_file c.args.file.now).tables in
    let other : bytes_eq (kind_in raw c.custom-cells.result) source_link ≡ false =
    ap (λ k. bytes_eq k source_link) (sym c.guid_of_kind.ensures) ∙ sym c.eq.ensures ∙ c.if-eq.false in
    record {
      later = omega arith;
      cost = omega arith;
      same = link_passed raw c.records.row c.args.rows.end c.custom-cells.result c.custom-cells.ensures.row (omega arith) other ∙ c.records.invariant.same;
    }

pub returns-clause-cost : goal.returns-clause-cost
returns-clause-cost g c = omega arith
