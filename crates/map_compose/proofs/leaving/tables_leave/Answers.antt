use Rattle.std.{proofs.Common.{arith, sym, subst, ◌≡◌, ◌∙◌, false}, specs.List.{list_any, range_with_len}}
use Rattle.map_compose.{specs.Leaving.{rows_leave}, proofs.Crossing.{range_none, range_some}}
use Rattle.map_compose.proofs.leaving.tables_leave.Goals as goal

pub tables-preserved : goal.tables-preserved
tables-preserved c = range_none (rows_leave c.args.first.now c.args.second.now) c.tables.table c.tables.invariant
    (sym c.table_leaves-leaves.ensures ∙ c.if-leaves.false)

pub returns-then-leaves : goal.returns-then-leaves
returns-then-leaves c = sym (range_some (rows_leave c.args.first.now c.args.second.now) 0 0x2d c.tables.table (omega arith) (omega arith)
    (sym c.table_leaves-leaves.ensures ∙ c.if-leaves.true))

pub returns : goal.returns
returns c =
    let end : c.tables.table ≡ 0x2d = omega arith in
    sym (subst (λ n. list_any (rows_leave c.args.first.now c.args.second.now) (range_with_len 0 n) ≡ false) end c.tables.invariant)
