use Rattle.std.proofs.Common.{◌≤◌, length}
use Rattle.ppdb_tables.specs.RawOf.{raw_of}
use Rattle.ppdb_verify.specs.Views.{tables_of}
use Rattle.ppdb_queries.specs.Chains.{links_from}
use Rattle.ppdb_show.{specs.QueryWalk.{Walked, lines_of_link}, proofs.Given.{Each}, proofs.Chains.{IsLink, link_reads}}
use Rattle.ppdb_show.proofs.query.imports.put_imports.Given as goal

abbrev pub invariant-chain : goal.invariant-chain
invariant-chain g l =
    let raw = raw_of (tables_of l.file) in
    record {
      each : Each (IsLink raw) l.chain;
      walk : Walked l.printer.form (lines_of_link raw) (link_reads raw) (links_from raw l.import) l.chain l.fn.text l.text l.fn.steps l.steps;
      later : l.fn.steps ≤ l.steps;
    }

abbrev pub decreases-chain : goal.decreases-chain
decreases-chain g l = length l.chain
