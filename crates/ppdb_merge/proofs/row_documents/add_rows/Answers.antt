use Rattle.std.proofs.{Common.{◌≡◌, ◌+◌, ◌-◌, ◌++◌, [], arith, map, subst, sym, take}, lemmas.List.{append-nil, length-map, take_all}}
use Rattle.ppdb_values.specs.{Documents.{document_of}, Value.{value_of}}
use Rattle.ppdb_verify.specs.Views.{raw_file}
use Rattle.ppdb_merge_joined.specs.Joined.{firsts}
use Rattle.ppdb_merge_moved.specs.Moved.{moved_document}
use Rattle.ppdb_merge.specs.Indexes.{HoldsDocuments}
use Rattle.ppdb_merge.proofs.row_documents.add_rows.Goals as goal

pub rows-init : goal.rows-init
rows-init g c = record {
  from = omega arith;
  to = omega arith;
  holds = λ all holds. subst (λ l. HoldsDocuments (firsts [] l) c.args.documents.now) (sym (append-nil all)) holds;
}

pub rows-preserved : goal.rows-preserved
rows-preserved g c =
    let values = (value_of (raw_file c.args.input.now.file)).documents in
    let up : c.rows.row ≡ c.rows.row + 1 - 1 = omega arith in
    record {
      from = omega arith;
      to = omega arith;
      holds = λ all holds.
          subst (λ n. HoldsDocuments (firsts [] (all ++ map (moved_document c.args.input.now.map) (take n values))) c.add_row.new.documents) up
          (c.in_ok-add_row.ensures all (c.rows.invariant.holds all holds));
    }

pub returns : goal.returns
returns g c = λ all holds.
    let raw = raw_file c.args.input.now.file in
    let many = length-map raw.tables.documents (document_of raw.tables) in
    subst (λ l. HoldsDocuments (firsts [] (all ++ map (moved_document c.args.input.now.map) l)) c.rows.documents)
    (take_all (c.rows.row - 1) (value_of raw).documents (omega (arith, many, c.facts.ensures.rules.shape.documents))) (c.rows.invariant.holds all holds)
