use Rattle.std.proofs.Common.{◌-◌, ◌+◌, ◌*◌, ◌≤◌, [], ◌∷◌, length, slice_range}
use Rattle.ppdb_tables.specs.{RawOf.{raw_of}, RawTables.{numbered}}
use Rattle.ppdb_verify.specs.Views.{tables_of}
use Rattle.ppdb_queries.specs.{Digits.{digits}, Runs.{rows_in}}
use Rattle.ppdb_show.specs.{Query.{custom_found}, QueryWalk.{Walked}}
use Rattle.ppdb_show.proofs.query.customs.put_customs.Given as goal

abbrev pub invariant-customs : goal.invariant-customs
invariant-customs g l =
    let raw = raw_of (tables_of l.file) in
    record {
      from : 1 ≤ l.row;
      to : l.row ≤ l.run.end;
      last : l.run.end ≤ length raw.customs + 1;
      walk : Walked l.printer.form (λ custom. custom_found raw custom.1 ∷ []) (λ custom. 1) (rows_in l.run raw.customs)
          (slice_range (numbered raw.customs) (l.row - 1) (l.run.end - 1))
          l.fn.text l.text (l.fn.steps + 2 * digits (length raw.customs)) l.steps;
      later : l.fn.steps ≤ l.steps;
    }

abbrev pub decreases-customs : goal.decreases-customs
decreases-customs g l = l.run.end - l.row
