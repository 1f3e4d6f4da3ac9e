use Rattle.std.proofs.{Common.{Err, sym, ◌∙◌, ap, None, Some, [], ◌∷◌}, lemmas.Result.{err_from_is_err_and}}
use Rattle.ppdb_base.specs.Place.{cell}
use Rattle.ppdb_values.specs.declared.file.MethodValue.{MethodValue}
use Rattle.ppdb_maps.specs.Map.{Map}
use Rattle.ppdb_verify.specs.Views.{raw_file}
use Rattle.ppdb_merge_names.{specs.References.{names, of_signature, of_method}, proofs.Going.{goes-as, goes-none, goes-cut, goes-more, goes-at}}
use Rattle.ppdb_merge_names.proofs.RowNames.{method_is, method_dropped, method_names}
use Rattle.ppdb_merge_names.proofs.rows.add_method.Goals as goal
use Rattle.ppdb_merge_names.proofs.Parts.{of_points}

pub returns-then-drops : goal.returns-then-drops
returns-then-drops c =
    let raw = raw_file c.args.file.now in
    let s = c.args.imager.now in
    goes-none s (of_method s.map raw.tables (c.args.row, c.args.cells.now))
    (method_dropped s.map raw.tables c.args.row c.args.cells.now (sym c.drops.ensures ∙ c.if-drops.true))

pub returns-in_default : goal.returns-in_default
returns-in_default c =
    let raw = raw_file c.args.file.now in
    let s = c.args.imager.now in
    let is = method_is raw c.args.row c.args.cells.now None c.values_are_rows.ensures c.requires c.in_default.ensures in
    goes-none s (of_method s.map raw.tables (c.args.row, c.args.cells.now))
    (sym (method_names s.map raw.tables c.args.row c.args.cells.now None (sym c.drops.ensures ∙ c.if-drops.false) is))

pub returns-in_err-add : goal.returns-in_err-add
returns-in_err-add c =
    let p = err_from_is_err_and c.from_residual.result c.from_residual.ensures.1 in
    let raw = raw_file c.args.file.now in
    let s = c.args.imager.now in
    let value : MethodValue = record { method = c.args.row; signature = c.in-Some.cursor.signature; points = c.in-Some.cursor.left.items } in
    let is = method_is raw c.args.row c.args.cells.now (Some value) c.values_are_rows.ensures c.requires c.in-Some.ensures.0 in
    rw (p.1, p.2)
    (goes-as s c.add.new.self (of_points s.map c.args.row (Some value)) (of_method s.map raw.tables (c.args.row, c.args.cells.now)) (Err c.in_err-add.field-0.0)
    (method_names s.map raw.tables c.args.row c.args.cells.now (Some value) (sym c.drops.ensures ∙ c.if-drops.false) is)
    (goes-cut s c.add.new.self c.add.new.self (names (cell 0x31 c.args.row 1) 0x06 c.args.row ∷ [])
    (of_signature s.map c.args.row value.signature) c.in_err-add.field-0.0
    (goes-at s c.add.new.self c.cell.result (cell 0x31 c.args.row 1) 0x06 c.args.row
    (Err c.in_err-add.field-0.0) c.cell.ensures c.in_err-add.ensures)))

pub returns : goal.returns
returns c =
    let raw = raw_file c.args.file.now in
    let s = c.args.imager.now in
    let value : MethodValue = record { method = c.args.row; signature = c.in-Some.cursor.signature; points = c.in-Some.cursor.left.items } in
    let is = method_is raw c.args.row c.args.cells.now (Some value) c.values_are_rows.ensures c.requires c.in-Some.ensures.0 in
    let t = c.add.new.self in
    let u = c.add_signature.new.imager in
    goes-as s u (of_points s.map c.args.row (Some value)) (of_method s.map raw.tables (c.args.row, c.args.cells.now)) c.add_signature.result
    (method_names s.map raw.tables c.args.row c.args.cells.now (Some value) (sym c.drops.ensures ∙ c.if-drops.false) is)
    (goes-more s t u (names (cell 0x31 c.args.row 1) 0x06 c.args.row ∷ [])
    (λ (m : Map). of_signature m c.args.row value.signature) c.add_signature.result
    (rw c.cell.ensures at c.in_ok-add.ensures)
    (goes-as t u (of_signature t.map c.args.row c.signature.result) (of_signature t.map c.args.row value.signature) c.add_signature.result
    (ap (of_signature t.map c.args.row) c.signature.ensures) c.add_signature.ensures))
