use Rattle.std.proofs.{Common.{Err, ◌++◌}, lemmas.Result.{err_from_is_err_and}}
use Rattle.ppdb_maps.specs.Map.{Map}
use Rattle.ppdb_verify.specs.Views.{raw_file}
use Rattle.ppdb_merge_names.{specs.TableRows.{of_table}, specs.declared.rows.Table.TheVariants.{ImportScope, StateMachine, Custom}, proofs.Going.{goes-cut}}
use Rattle.ppdb_merge_names.proofs.Going.{goes-more}
use Rattle.ppdb_merge_names.proofs.file.add_others.Goals as goal

pub returns-in_err-add_table : goal.returns-in_err-add_table
returns-in_err-add_table g c =
    let p = err_from_is_err_and c.from_residual.result c.from_residual.ensures.1 in
    let raw = (raw_file c.args.file.now).tables in
    let s = c.args.imager.now in
    rw (p.1, p.2)
    (goes-cut s c.add_table.new.imager c.add_table.new.imager (of_table s.map raw ImportScope)
    (of_table s.map raw StateMachine ++ of_table s.map raw Custom) c.in_err-add_table.field-0.0 c.in_err-add_table.ensures)

pub returns-in_err-add_table-2 : goal.returns-in_err-add_table-2
returns-in_err-add_table-2 g c =
    let p = err_from_is_err_and c.from_residual-in_err-add_table-2.result c.from_residual-in_err-add_table-2.ensures.1 in
    let raw = (raw_file c.args.file.now).tables in
    let s = c.args.imager.now in
    let t = c.add_table.new.imager in
    let u = c.add_table-2.new.imager in
    rw (p.1, p.2)
    (goes-more s t u (of_table s.map raw ImportScope) (λ (m : Map). of_table m raw StateMachine ++ of_table m raw Custom)
    (Err c.in_err-add_table-2.field-0.0) c.in_ok-add_table.ensures
    (goes-cut t u u (of_table t.map raw StateMachine) (of_table t.map raw Custom) c.in_err-add_table-2.field-0.0 c.in_err-add_table-2.ensures))

pub returns : goal.returns
returns g c =
    let raw = (raw_file c.args.file.now).tables in
    let s = c.args.imager.now in
    let t = c.add_table.new.imager in
    let u = c.add_table-2.new.imager in
    let v = c.add_table-3.new.imager in
    goes-more s t v (of_table s.map raw ImportScope)
    (λ (m : Map). of_table m raw StateMachine ++ of_table m raw Custom) c.add_table-3.result c.in_ok-add_table.ensures
    (goes-more t u v (of_table t.map raw StateMachine)
    (λ (m : Map). of_table m raw Custom) c.add_table-3.result c.in_ok-add_table-2.ensures c.add_table-3.ensures)
