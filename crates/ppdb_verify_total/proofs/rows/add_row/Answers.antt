use Rattle.std.proofs.Common.{[], ◌∷◌, ap, sym, ◌∙◌}
use Rattle.ppdb_heaps.specs.Heaps.{blob_at}
use Rattle.ppdb_tables.specs.{RawTables.{row_at}, RawOf.{raw_of}}
use Rattle.ppdb_verify_total.specs.HeapUses.{blob_in, text_in, in_name, named_inside, of_document, of_method, of_variable, of_constant, of_import, of_custom}
use Rattle.ppdb_verify_total.specs.{Spans.{spanned}, TableRows.{rows_of}}
use Rattle.ppdb_verify_total.specs.declared.rows.Table as table
use Rattle.ppdb_verify_total.proofs.{Sums.{cut_short, followed}, RowLists.{names_are}}
use Rattle.ppdb_verify_total.proofs.rows.add_row.Goals as goal

pub returns-in-Ok-clause-sum : goal.returns-in-Ok-clause-sum
returns-in-Ok-clause-sum g c names there =
    let raw = raw_of c.args.tables.now in
    let is = names_are (of_document raw) raw.documents c.args.row names c.document-document.result (ap (λ (t : table.Table). row_at (rows_of raw t) c.args.row)
    (sym c.in-Document.is) ∙ there) c.document-document.ensures.row in
    followed c.args.total c.in-Ok.sum (blob_in raw 0x30 c.args.row 0 c.document-document.result.name
    ∷ named_inside raw.blobs 0x30 c.args.row 0 (in_name raw (blob_at raw.blobs c.document-document.result.name)))
    (blob_in raw 0x30 c.args.row 2 c.document-document.result.hash ∷ []) c.add_blob.result c.in-Ok.ensures.sum c.add_blob.ensures.sum
    ∙ ap (spanned c.args.total) is

pub returns-in-Err-clause-sum : goal.returns-in-Err-clause-sum
returns-in-Err-clause-sum g c names there =
    let raw = raw_of c.args.tables.now in
    let is = names_are (of_document raw) raw.documents c.args.row names c.document-document.result (ap (λ (t : table.Table). row_at (rows_of raw t) c.args.row)
    (sym c.in-Document.is) ∙ there) c.document-document.ensures.row in
    cut_short c.args.total c.in-Err.fault (blob_in raw 0x30 c.args.row 0 c.document-document.result.name
    ∷ named_inside raw.blobs 0x30 c.args.row 0 (in_name raw (blob_at raw.blobs c.document-document.result.name)))
    (blob_in raw 0x30 c.args.row 2 c.document-document.result.hash ∷ []) c.in-Err.ensures.sum ∙ ap (spanned c.args.total) is

pub returns-in-MethodDebug-clause-sum : goal.returns-in-MethodDebug-clause-sum
returns-in-MethodDebug-clause-sum g c names there =
    let raw = raw_of c.args.tables.now in
    let is = names_are (of_method raw) raw.methods c.args.row names c.method_debug-method.result (ap (λ (t : table.Table). row_at (rows_of raw t) c.args.row)
    (sym c.in-MethodDebug.is) ∙ there) c.method_debug-method.ensures.row in
    c.add_blob-in-MethodDebug.ensures.sum ∙ ap (spanned c.args.total) is

pub returns-in-LocalVariable-clause-sum : goal.returns-in-LocalVariable-clause-sum
returns-in-LocalVariable-clause-sum g c names there =
    let raw = raw_of c.args.tables.now in
    let is = names_are (of_variable raw) raw.variables c.args.row names c.variable-variable.result (ap (λ (t : table.Table). row_at (rows_of raw t) c.args.row)
    (sym c.in-LocalVariable.is) ∙ there) c.variable-variable.ensures.row in
    c.add_text.ensures.sum ∙ ap (spanned c.args.total) is

pub returns-in-Ok-add_text-clause-sum : goal.returns-in-Ok-add_text-clause-sum
returns-in-Ok-add_text-clause-sum g c names there =
    let raw = raw_of c.args.tables.now in
    let is = names_are (of_constant raw) raw.constants c.args.row names c.constant-constant.result (ap (λ (t : table.Table). row_at (rows_of raw t) c.args.row)
    (sym c.in-LocalConstant.is) ∙ there) c.constant-constant.ensures.row in
    followed c.args.total c.in-Ok-add_text.sum (text_in raw 0x34 c.args.row 0 c.constant-constant.result.name ∷ [])
    (blob_in raw 0x34 c.args.row 1 c.constant-constant.result.signature ∷ []) c.add_blob-in-Ok-add_text.result c.in-Ok-add_text.ensures.sum
    c.add_blob-in-Ok-add_text.ensures.sum ∙ ap (spanned c.args.total) is

pub returns-in-Err-add_text-clause-sum : goal.returns-in-Err-add_text-clause-sum
returns-in-Err-add_text-clause-sum g c names there =
    let raw = raw_of c.args.tables.now in
    let is = names_are (of_constant raw) raw.constants c.args.row names c.constant-constant.result (ap (λ (t : table.Table). row_at (rows_of raw t) c.args.row)
    (sym c.in-LocalConstant.is) ∙ there) c.constant-constant.ensures.row in
    cut_short c.args.total c.in-Err-add_text.fault (text_in raw 0x34 c.args.row 0 c.constant-constant.result.name ∷ [])
    (blob_in raw 0x34 c.args.row 1 c.constant-constant.result.signature ∷ []) c.in-Err-add_text.ensures.sum ∙ ap (spanned c.args.total) is

pub returns-in-ImportScope-clause-sum : goal.returns-in-ImportScope-clause-sum
returns-in-ImportScope-clause-sum g c names there =
    let raw = raw_of c.args.tables.now in
    let is = names_are (of_import raw) raw.imports c.args.row names c.import-import.result (ap (λ (t : table.Table). row_at (rows_of raw t) c.args.row)
    (sym c.in-ImportScope.is) ∙ there) c.import-import.ensures.row in
    c.add_list.ensures.sum ∙ ap (spanned c.args.total) is

pub returns-in-Custom-clause-sum : goal.returns-in-Custom-clause-sum
returns-in-Custom-clause-sum g c names there =
    let raw = raw_of c.args.tables.now in
    let is = names_are (of_custom raw) raw.customs c.args.row names c.custom-custom.result (ap (λ (t : table.Table). row_at (rows_of raw t) c.args.row)
    (sym c.in-Custom.is) ∙ there) c.custom-custom.ensures.row in
    c.add_blob-in-Custom.ensures.sum ∙ ap (spanned c.args.total) is
