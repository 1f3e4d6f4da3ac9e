use Rattle.std.proofs.{Common.{◌≡◌, sym, ap, ◌∙◌, arith}, lemmas.List.{take_all, length-set}}
use Rattle.ppdb_merge_moved.{specs.Moved.{moved_counts}, proofs.Counts.{counts_more}}
use Rattle.ppdb_merge_moved.proofs.file.moved_rows.Goals as goal

pub loop-table-preserved : goal.loop-table-preserved
loop-table-preserved c = record {
  prefix = counts_more c.args.map.now c.args.rows.now c.loop-table.moved c.loop-table.table c.output_rows.result (omega arith)
      (omega arith) c.loop-table.invariant.prefix c.output_rows.ensures;
  rows = c.loop-table.invariant.rows;
  moved = omega (arith, length-set c.loop-table.moved c.loop-table.table c.output_rows.result);
}

pub returns : goal.returns
returns c =
    let end : c.loop-table.table ≡ 64 = omega arith in
    sym (take_all c.loop-table.table c.loop-table.moved (omega arith)) ∙ c.loop-table.invariant.prefix
    ∙ ap (moved_counts c.args.map.now 0) (take_all c.loop-table.table c.args.rows.now (omega arith))
