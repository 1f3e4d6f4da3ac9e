use Rattle.std.{proofs.Common.{Err, ◌++◌}, proofs.lemmas.Result.{err_from_is_err_and}, specs.List.{flat_map}}
use Rattle.ppdb_maps.specs.Map.{Map}
use Rattle.ppdb_tables.specs.RawTables.{numbered}
use Rattle.ppdb_verify.specs.Views.{raw_file}
use Rattle.ppdb_merge_names.specs.{References.{of_constant}, TableRows.{of_table}, declared.rows.Table.TheVariants.{MethodDebug, LocalScope}}
use Rattle.ppdb_merge_names.proofs.Going.{goes-cut, goes-more}
use Rattle.ppdb_merge_names.proofs.file.add_methods.Goals as goal

pub returns-in_err-add_table : goal.returns-in_err-add_table
returns-in_err-add_table g c =
    let p = err_from_is_err_and c.from_residual.result c.from_residual.ensures.1 in
    let raw = (raw_file c.args.file.now).tables in
    let s = c.args.imager.now in
    rw (p.1, p.2)
    (goes-cut s c.add_table.new.imager c.add_table.new.imager (of_table s.map raw MethodDebug)
    (of_table s.map raw LocalScope ++ flat_map (of_constant s.map raw) (numbered raw.constants)) c.in_err-add_table.field-0.0
    c.in_err-add_table.ensures)

pub returns-in_err-add_table-2 : goal.returns-in_err-add_table-2
returns-in_err-add_table-2 g c =
    let p = err_from_is_err_and c.from_residual-in_err-add_table-2.result c.from_residual-in_err-add_table-2.ensures.1 in
    let raw = (raw_file c.args.file.now).tables in
    let s = c.args.imager.now in
    let t = c.add_table.new.imager in
    let u = c.add_table-2.new.imager in
    rw (p.1, p.2)
    (goes-more s t u (of_table s.map raw MethodDebug) (λ (m : Map). of_table m raw LocalScope ++ flat_map (of_constant m raw) (numbered raw.constants))
    (Err c.in_err-add_table-2.field-0.0) c.in_ok-add_table.ensures
    (goes-cut t u u (of_table t.map raw LocalScope)
    (flat_map (of_constant t.map raw) (numbered raw.constants)) c.in_err-add_table-2.field-0.0 c.in_err-add_table-2.ensures))

pub returns : goal.returns
returns g c =
    let raw = (raw_file c.args.file.now).tables in
    let s = c.args.imager.now in
    let t = c.add_table.new.imager in
    let u = c.add_table-2.new.imager in
    let v = c.add_constants.new.imager in
    goes-more s t v (of_table s.map raw MethodDebug)
    (λ (m : Map). of_table m raw LocalScope ++ flat_map (of_constant m raw) (numbered raw.constants)) c.add_constants.result c.in_ok-add_table.ensures
    (goes-more t u v (of_table t.map raw LocalScope)
    (λ (m : Map). flat_map (of_constant m raw) (numbered raw.constants)) c.add_constants.result c.in_ok-add_table-2.ensures c.add_constants.ensures)
