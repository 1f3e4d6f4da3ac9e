use Rattle.std.{proofs.Common.{ap, sym, ◌∙◌, map}, specs.Prelude.{is_some}}
use Rattle.ppdb_maps.specs.{declared.entries.RowLine.{RowLine}, declared.entries.CrossLine.{CrossLine}, declared.entries.GoneLine.{GoneLine}, Map.{rows_of}}
use Rattle.ppdb_maps.specs.Map.{crossed_of, gone_of}
use Rattle.map_compose.proofs.Thrice.{left_passed, left_ended, rows_rise, crossed_rise, gone_rise, rows_few, crossed_few, gone_few}
use Rattle.map_compose.proofs.olds.next_old.Goals as goal

pub returns-in-None : goal.returns-in-None
returns-in-None c = left_ended (map (λ (r : RowLine). r.old) (rows_of c.args.lines.now c.args.table))
    (map (λ (r : CrossLine). r.old) (crossed_of c.args.lines.now c.args.table)) (map (λ (r : GoneLine). r.old) (gone_of c.args.lines.now c.args.table))
    c.args.passed.now.rows c.args.passed.now.crossed c.args.passed.now.gone
    c.row_old-row.result c.cross_old-crossed.result c.gone_old-gone.result c.least_of.result
    c.row_old-row.ensures c.cross_old-crossed.ensures c.gone_old-gone.ensures c.least_of.ensures c.in-None.ensures

pub returns-in-Some : goal.returns-in-Some
returns-in-Some c = left_passed (map (λ (r : RowLine). r.old) (rows_of c.args.lines.now c.args.table))
    (map (λ (r : CrossLine). r.old) (crossed_of c.args.lines.now c.args.table)) (map (λ (r : GoneLine). r.old) (gone_of c.args.lines.now c.args.table))
    (rows_rise c.args.lines.now c.facts.ensures c.args.table) (crossed_rise c.args.lines.now c.facts.ensures c.args.table)
    (gone_rise c.args.lines.now c.facts.ensures c.args.table)
    c.args.passed.now.rows c.args.passed.now.crossed c.args.passed.now.gone
    c.in-Some.least c.after.result c.after-in-Some.result c.after-in-Some-2.result
    c.row_old-row.result c.cross_old-crossed.result c.gone_old-gone.result c.least_of.result
    c.row_old-row.ensures c.cross_old-crossed.ensures c.gone_old-gone.ensures c.least_of.ensures c.in-Some.ensures
    c.after.ensures c.after-in-Some.ensures c.after-in-Some-2.ensures

pub after-requires : goal.after-requires
after-requires c = λ some. rows_few c.args.lines.now c.facts.ensures c.args.table c.args.passed.now.rows (sym (ap is_some c.row_old-row.ensures) ∙ some)

pub after-requires-in-Some : goal.after-requires-in-Some
after-requires-in-Some c = λ some. crossed_few c.args.lines.now c.facts.ensures c.args.table c.args.passed.now.crossed
    (sym (ap is_some c.cross_old-crossed.ensures) ∙ some)

pub after-requires-in-Some-2 : goal.after-requires-in-Some-2
after-requires-in-Some-2 c = λ some. gone_few c.args.lines.now c.facts.ensures c.args.table c.args.passed.now.gone
    (sym (ap is_some c.gone_old-gone.ensures) ∙ some)
