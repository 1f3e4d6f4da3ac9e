use Rattle.std.proofs.{Common.{Err, ◌++◌}, lemmas.Result.{err_from_is_err_and}}
use Rattle.ppdb_maps.specs.Map.{Map}
use Rattle.ppdb_verify.specs.Views.{raw_file}
use Rattle.ppdb_merge_names.{specs.References.{of_entry, of_methods, of_others, references}, proofs.Going.{goes-cut, goes-more}}
use Rattle.ppdb_merge_names.proofs.file.add_file.Goals as goal

pub returns-in_err-add_entry : goal.returns-in_err-add_entry
unfolding references
returns-in_err-add_entry g c =
    let p = err_from_is_err_and c.from_residual.result c.from_residual.ensures.1 in
    let raw = raw_file c.args.file.now in
    let s = c.args.imager.now in
    rw (p.1, p.2)
    (goes-cut s c.add_entry.new.imager c.add_entry.new.imager (of_entry c.args.first s.map raw.entry)
    (of_methods s.map raw.tables ++ of_others s.map raw.tables) c.in_err-add_entry.field-0.0
    c.in_err-add_entry.ensures)

pub returns-in_err-add_methods : goal.returns-in_err-add_methods
unfolding references
returns-in_err-add_methods g c =
    let p = err_from_is_err_and c.from_residual-in_err-add_methods.result c.from_residual-in_err-add_methods.ensures.1 in
    let raw = raw_file c.args.file.now in
    let s = c.args.imager.now in
    let t = c.add_entry.new.imager in
    let u = c.add_methods.new.imager in
    rw (p.1, p.2)
    (goes-more s t u (of_entry c.args.first s.map raw.entry) (λ (m : Map). of_methods m raw.tables ++ of_others m raw.tables)
    (Err c.in_err-add_methods.field-0.0) c.in_ok-add_entry.ensures
    (goes-cut t u u (of_methods t.map raw.tables) (of_others t.map raw.tables) c.in_err-add_methods.field-0.0 c.in_err-add_methods.ensures))

pub returns : goal.returns
unfolding references
returns g c =
    let raw = raw_file c.args.file.now in
    let s = c.args.imager.now in
    let t = c.add_entry.new.imager in
    let u = c.add_methods.new.imager in
    let v = c.add_others.new.imager in
    goes-more s t v (of_entry c.args.first s.map raw.entry)
    (λ (m : Map). of_methods m raw.tables ++ of_others m raw.tables) c.add_others.result c.in_ok-add_entry.ensures
    (goes-more t u v (of_methods t.map raw.tables) (λ (m : Map). of_others m raw.tables) c.add_others.result c.in_ok-add_methods.ensures c.add_others.ensures)
