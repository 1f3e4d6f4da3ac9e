use Rattle.std.{proofs.Common.{ap, sym, ◌∙◌}, specs.Option.{option_or}}
use Rattle.ppdb_maps.specs.Map.{count_of}
use Rattle.map_compose.proofs.Crossing.{none_counted}
use Rattle.map_compose.proofs.leaving.table_leaves.Goals as goal

pub returns-in-None : goal.returns-in-None
returns-in-None c = sym (none_counted c.args.first.now c.args.second.now c.args.table
    (sym (ap (λ o. option_or o (count_of c.args.first.now c.args.table)) c.rows.ensures)
    ∙ sym (ap (option_or c.rows.result) c.rows-2.ensures) ∙ sym c.in-None.ensures))
