use Rattle.std.proofs.Common.{◌-◌, ◌+◌, ◌*◌, ◌≤◌, length, slice_range}
use Rattle.ppdb_tables.specs.{RawOf.{raw_of}, RawTables.{numbered}}
use Rattle.ppdb_verify.specs.Views.{tables_of}
use Rattle.ppdb_queries.specs.{Digits.{digits}, Runs.{rows_in}}
use Rattle.ppdb_show.specs.{Query.{lines_of_record}, QueryWalk.{Walked}}
use Rattle.ppdb_show.proofs.query.records.put_records.Given as goal

abbrev pub invariant-records : goal.invariant-records
invariant-records g l =
    let raw = raw_of (tables_of l.file) in
    record {
      from : 1 ≤ l.row;
      to : l.row ≤ l.run.end;
      last : l.run.end ≤ length raw.customs + 1;
      walk : Walked l.printer.form (lines_of_record raw) (λ custom. 1) (rows_in l.run raw.customs) (slice_range (numbered raw.customs) (l.row - 1) (l.run.end - 1))
          l.fn.text l.text (l.fn.steps + 2 * digits (length raw.customs)) l.steps;
      later : l.fn.steps ≤ l.steps;
    }

abbrev pub decreases-records : goal.decreases-records
decreases-records g l = l.run.end - l.row
