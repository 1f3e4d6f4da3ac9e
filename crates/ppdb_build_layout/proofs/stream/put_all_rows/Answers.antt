use Rattle.std.proofs.Common.{◌≡◌, ℕ, List, ◌++◌, ap, ◌∙◌, refl, append_assoc, flat_map}
use Rattle.row_layout.specs.{declared.column.Column.{Column}, declared.column.Sizes.{Sizes}, Rows.{row_bytes}}
use Rattle.ppdb_tables.specs.Layouts.{widths_of, document_columns, method_columns, scope_columns, variable_columns, constant_columns, import_columns}
use Rattle.ppdb_tables.specs.Layouts.{machine_columns, custom_columns}
use Rattle.ppdb_build_layout.specs.Bytes.{rows_bytes, all_rows, document_cells, method_cells, scope_cells, variable_cells, constant_cells, import_cells}
use Rattle.ppdb_build_layout.{specs.Bytes.{machine_cells, custom_cells}, proofs.Begins.{begins-more}}
use Rattle.ppdb_base.proofs.Written.{on_err}
use Rattle.ppdb_build_layout.proofs.stream.put_all_rows.Goals as goal

-- the rows of a table after the bytes before them
table : {X : Type 0} (sizes : Sizes) (columns : List Column) (cells : X → List ℕ) (layout : List ℕ) (lent rows : List X) (old before new : List ℕ)
    → layout ≡ widths_of sizes columns → lent ≡ rows → old ≡ before → new ≡ old ++ flat_map (λ row. row_bytes layout (cells row)) lent
    → new ≡ before ++ rows_bytes sizes columns cells rows
table sizes columns cells layout lent rows old before new is same was put =
    put ∙ ap (λ into. into ++ flat_map (λ row. row_bytes layout (cells row)) lent) was
    ∙ ap (λ widths. before ++ flat_map (λ row. row_bytes widths (cells row)) lent) is
    ∙ ap (λ some. before ++ flat_map (λ row. row_bytes (widths_of sizes columns) (cells row)) some) same

pub returns-clause-ok : goal.returns-clause-ok
unfolding all_rows
returns-clause-ok c =
    let sizes = c.args.sizes.now in
    let rows = c.args.rows.now in
    let one = table sizes document_columns document_cells _ _ rows.documents _ c.args.into.now _ c.documents.ensures c.as_slice.ensures refl
    c.in_ok-put_rows.ensures.ok in
    let two = table sizes method_columns method_cells _ _ rows.methods _ _ _ c.methods.ensures c.as_slice-2.ensures one c.in_ok-put_rows-2.ensures.ok in
    let three = table sizes scope_columns scope_cells _ _ rows.scopes _ _ _ c.scopes.ensures c.as_slice-3.ensures two c.in_ok-put_rows-3.ensures.ok in
    let four = table sizes variable_columns variable_cells _ _ rows.variables _ _ _ c.variables.ensures c.as_slice-4.ensures three
    c.in_ok-put_rows-4.ensures.ok in
    let five = table sizes constant_columns constant_cells _ _ rows.constants _ _ _ c.constants.ensures c.as_slice-5.ensures four
    c.in_ok-put_rows-5.ensures.ok in
    let six = table sizes import_columns import_cells _ _ rows.imports _ _ _ c.imports.ensures c.as_slice-6.ensures five c.in_ok-put_rows-6.ensures.ok in
    let seven = table sizes machine_columns machine_cells _ _ rows.machines _ _ _ c.machines.ensures c.as_slice-7.ensures six c.in_ok-put_rows-7.ensures.ok in
    let eight = table sizes custom_columns custom_cells _ _ rows.customs _ _ _ c.customs.ensures c.as_slice-8.ensures seven c.in_ok-put_rows-8.ensures.ok in
    eight ∙ simp append_assoc refl

pub returns-in_err-put_rows-8-clause-err : goal.returns-in_err-put_rows-8-clause-err
returns-in_err-put_rows-8-clause-err c =
    on_err c.from_residual-in_err-put_rows-8.result (begins-more _ _ _ _ (begins-more _ _ _ _ (begins-more _ _ _ _ (begins-more _ _ _ _ (begins-more _ _ _ _
    (begins-more _ _ _ _ (begins-more _ _ _ _ c.in_err-put_rows-8.ensures.err c.in_ok-put_rows-7.ensures.ok) c.in_ok-put_rows-6.ensures.ok)
    c.in_ok-put_rows-5.ensures.ok) c.in_ok-put_rows-4.ensures.ok) c.in_ok-put_rows-3.ensures.ok) c.in_ok-put_rows-2.ensures.ok)
    c.in_ok-put_rows.ensures.ok)
