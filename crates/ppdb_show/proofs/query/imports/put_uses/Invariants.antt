use Rattle.std.{proofs.Common.{◌≡◌, [], ◌∷◌, length}, specs.Prelude.{None}}
use Rattle.ppdb_values.specs.Imports.{import_value}
use Rattle.ppdb_show_lines.specs.Uses.{use_line}
use Rattle.ppdb_show.specs.QueryWalk.{Walked}
use Rattle.ppdb_show.proofs.query.imports.put_uses.Given as goal

abbrev pub invariant-imports : goal.invariant-imports
invariant-imports l = record {
  whole : l.imports.fault ≡ None;
  walk : Walked l.printer.form (λ item. use_line (import_value item) ∷ []) (λ item. 0) l.fn.imports.items l.imports.items l.fn.text l.text 0 0;
}

abbrev pub decreases-imports : goal.decreases-imports
decreases-imports l = length l.imports.items
