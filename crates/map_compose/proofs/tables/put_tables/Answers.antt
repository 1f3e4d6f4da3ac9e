use Rattle.std.{proofs.Common.{arith, ◌≡◌, subst}, specs.List.{flat_map, range_with_len}}
use Rattle.map_compose.{specs.Says.{PutsLines, table_says}, proofs.Putting.{says_none, flat_range}}
use Rattle.map_compose.proofs.tables.put_tables.Goals as goal

pub tables-init : goal.tables-init
tables-init c = says_none c.args.text.now

pub tables-preserved : goal.tables-preserved
tables-preserved c = flat_range (table_says c.args.first.now c.args.second.now) c.tables.table _ _ _ c.tables.invariant c.in_ok-put_table.ensures

pub returns : goal.returns
returns c =
    let end : c.tables.table ≡ 0x2d = omega arith in
    subst (λ n. PutsLines c.args.text.now c.tables.text (flat_map (table_says c.args.first.now c.args.second.now) (range_with_len 0 n))) end c.tables.invariant
