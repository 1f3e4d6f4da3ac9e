use Rattle.std.proofs.Common.{◌≡◌, ◌+◌, ◌-◌, ◌≤◌}
use Rattle.ppdb_verify.specs.Views.{raw_file}
use Rattle.source_link.specs.RecordRows.{link_between}
use Rattle.source_link.proofs.find.link_between.Given as goal

abbrev pub invariant-records : goal.invariant-records
invariant-records g l = record {
  later : l.fn.steps ≤ l.steps;
  cost : l.steps ≤ l.fn.steps + (l.row - l.fn.rows.first);
  same : link_between (raw_file l.file).tables l.row l.fn.rows.end ≡ link_between (raw_file l.file).tables l.fn.rows.first l.fn.rows.end;
}
