use Rattle.std.proofs.Common.{◌+◌, [], ◌∷◌, length}
use Rattle.ppdb_tables.specs.RawOf.{raw_of}
use Rattle.ppdb_verify.specs.Views.{tables_of}
use Rattle.ppdb_queries.specs.Hoisted.{hoisted_at}
use Rattle.ppdb_show.specs.{Query.{hoisted_line}, QueryWalk.{Walked, customs_reads}}
use Rattle.ppdb_show.proofs.query.hoisted.put_hoisted.Given as goal

abbrev pub invariant-locals : goal.invariant-locals
invariant-locals g l =
    let raw = raw_of (tables_of l.file) in
    record {
      walk : Walked l.printer.form (λ local. hoisted_line local ∷ []) (λ local. 0) (hoisted_at raw l.method l.offset) l.locals.items l.fn.text l.text
          (l.fn.steps + customs_reads raw 0x06 l.method) (l.steps + l.locals.rows);
    }

abbrev pub decreases-locals : goal.decreases-locals
decreases-locals g l = length l.locals.items
