use Rattle.std.{proofs.Common.{◌≡◌, ℕ, Bool, true, false, List, ap, sym, subst, ◌∙◌, All, true≢false}, specs.Prelude.{IsTrue, ◌↔◌, ◌&&◌}}
use Rattle.row_layout.specs.{declared.column.Column.{Column}, declared.column.Sizes.{Sizes}, Rows.{Fit}}
use Rattle.ppdb_tables.specs.Layouts.{widths_of, document_columns, method_columns, scope_columns, variable_columns, constant_columns, import_columns}
use Rattle.ppdb_tables.specs.Layouts.{machine_columns, custom_columns}
use Rattle.ppdb_build_layout.specs.Bytes.{sizes_of, document_cells, method_cells, scope_cells, variable_cells, constant_cells, import_cells, machine_cells}
use Rattle.ppdb_build_layout.specs.{Bytes.{custom_cells}, Laid.{RowsFit}}
use Rattle.ppdb_build_layout.proofs.stream.all_rows_fit.Goals as goal

both : (a b : Bool) → IsTrue (a && b) → IsTrue a × IsTrue b
both true true h = (h, h)
both true false h = absurd (true≢false (sym h))
both false b h = absurd (true≢false (sym h))

join : (a b : Bool) → IsTrue a → IsTrue b → IsTrue (a && b)
join true b ha hb = hb
join false b ha hb = ha

-- the test of a table, in the words of the tables
table : {X : Type 0} (sizes judged : Sizes) (columns : List Column) (cells : X → List ℕ) (layout : List ℕ) (lent rows : List X) (r : Bool)
    → layout ≡ widths_of judged columns → judged ≡ sizes → lent ≡ rows → (IsTrue r ↔ All (λ row. Fit layout (cells row)) lent)
    → (IsTrue r ↔ RowsFit sizes columns cells rows)
table {X = X} sizes judged columns cells layout lent rows r is by same iff =
    subst (λ (some : List X). IsTrue r ↔ RowsFit sizes columns cells some) same
    (subst (λ (widths : List ℕ). IsTrue r ↔ All (λ row. Fit widths (cells row)) lent) (is ∙ ap (λ (s : Sizes). widths_of s columns) by) iff)

pub returns : goal.returns
returns c =
    let sizes = sizes_of c.args.counts.now c.args.heaps in
    let documents = table sizes _ document_columns document_cells _ _ c.args.rows.now.documents c.rows_fit-documents.result c.documents.ensures
    c.sizes-sizes.ensures c.as_slice.ensures c.rows_fit-documents.ensures in
    let methods = table sizes _ method_columns method_cells _ _ c.args.rows.now.methods c.rows_fit-methods.result c.methods.ensures c.sizes-sizes.ensures
    c.as_slice-2.ensures c.rows_fit-methods.ensures in
    let scopes = table sizes _ scope_columns scope_cells _ _ c.args.rows.now.scopes c.rows_fit-scopes.result c.scopes.ensures c.sizes-sizes.ensures
    c.as_slice-3.ensures c.rows_fit-scopes.ensures in
    let variables = table sizes _ variable_columns variable_cells _ _ c.args.rows.now.variables c.rows_fit-variables.result c.variables.ensures
    c.sizes-sizes.ensures c.as_slice-4.ensures c.rows_fit-variables.ensures in
    let constants = table sizes _ constant_columns constant_cells _ _ c.args.rows.now.constants c.rows_fit-constants.result c.constants.ensures
    c.sizes-sizes.ensures c.as_slice-5.ensures c.rows_fit-constants.ensures in
    let imports = table sizes _ import_columns import_cells _ _ c.args.rows.now.imports c.rows_fit-imports.result c.imports.ensures c.sizes-sizes.ensures
    c.as_slice-6.ensures c.rows_fit-imports.ensures in
    let machines = table sizes _ machine_columns machine_cells _ _ c.args.rows.now.machines c.rows_fit-machines.result c.machines.ensures
    c.sizes-sizes.ensures c.as_slice-7.ensures c.rows_fit-machines.ensures in
    let customs = table sizes _ custom_columns custom_cells _ _ c.args.rows.now.customs c.rows_fit-customs.result c.customs.ensures c.sizes-sizes.ensures
    c.as_slice-8.ensures c.rows_fit-customs.ensures in (
      λ h.
          let h7 = both ((((((c.rows_fit-documents.result && c.rows_fit-methods.result) && c.rows_fit-scopes.result) && c.rows_fit-variables.result) &&
          c.rows_fit-constants.result) && c.rows_fit-imports.result) && c.rows_fit-machines.result) c.rows_fit-customs.result h in
          let h6 = both (((((c.rows_fit-documents.result && c.rows_fit-methods.result) && c.rows_fit-scopes.result) && c.rows_fit-variables.result) &&
          c.rows_fit-constants.result) && c.rows_fit-imports.result) c.rows_fit-machines.result h7.0 in
          let h5 = both ((((c.rows_fit-documents.result && c.rows_fit-methods.result) && c.rows_fit-scopes.result) && c.rows_fit-variables.result) &&
          c.rows_fit-constants.result) c.rows_fit-imports.result h6.0 in
          let h4 = both (((c.rows_fit-documents.result && c.rows_fit-methods.result) && c.rows_fit-scopes.result) && c.rows_fit-variables.result)
          c.rows_fit-constants.result h5.0 in
          let h3 = both ((c.rows_fit-documents.result && c.rows_fit-methods.result) && c.rows_fit-scopes.result) c.rows_fit-variables.result h4.0 in
          let h2 = both (c.rows_fit-documents.result && c.rows_fit-methods.result) c.rows_fit-scopes.result h3.0 in
          let h1 = both c.rows_fit-documents.result c.rows_fit-methods.result h2.0 in
          record {
            documents = documents.0 h1.0;
            methods = methods.0 h1.1;
            scopes = scopes.0 h2.1;
            variables = variables.0 h3.1;
            constants = constants.0 h4.1;
            imports = imports.0 h5.1;
            machines = machines.0 h6.1;
            customs = customs.0 h7.1;
          },
      λ all. join ((((((c.rows_fit-documents.result && c.rows_fit-methods.result) && c.rows_fit-scopes.result) && c.rows_fit-variables.result) &&
          c.rows_fit-constants.result) && c.rows_fit-imports.result) && c.rows_fit-machines.result) c.rows_fit-customs.result (join
          (((((c.rows_fit-documents.result && c.rows_fit-methods.result) && c.rows_fit-scopes.result) && c.rows_fit-variables.result) &&
          c.rows_fit-constants.result) && c.rows_fit-imports.result) c.rows_fit-machines.result (join
          ((((c.rows_fit-documents.result && c.rows_fit-methods.result) && c.rows_fit-scopes.result) && c.rows_fit-variables.result) &&
          c.rows_fit-constants.result) c.rows_fit-imports.result (join
          (((c.rows_fit-documents.result && c.rows_fit-methods.result) && c.rows_fit-scopes.result) && c.rows_fit-variables.result)
          c.rows_fit-constants.result (join ((c.rows_fit-documents.result && c.rows_fit-methods.result) && c.rows_fit-scopes.result)
          c.rows_fit-variables.result (join (c.rows_fit-documents.result && c.rows_fit-methods.result) c.rows_fit-scopes.result
          (join c.rows_fit-documents.result c.rows_fit-methods.result (documents.1 all.documents) (methods.1 all.methods))
          (scopes.1 all.scopes)) (variables.1 all.variables)) (constants.1 all.constants)) (imports.1 all.imports))
          (machines.1 all.machines)) (customs.1 all.customs),
    )
