use Rattle.std.proofs.Common.{◌++◌, ap, sym, ◌∙◌}
use Rattle.ppdb_tables.specs.RawOf.{raw_of}
use Rattle.ppdb_verify_total.specs.{HeapUses.{heap_uses}, Spans.{spanned}, TableRows.{of_table}, declared.rows.Table.TheVariants.{Document, MethodDebug}}
use Rattle.ppdb_verify_total.{specs.declared.rows.Table.TheVariants.{LocalVariable, LocalConstant, ImportScope, Custom}, proofs.TableLists.{tables_are}}
use Rattle.ppdb_verify_total.proofs.Sums.{sum-few, sum-past}
use Rattle.ppdb_verify_total.proofs.tables.add_tables.Goals as goal

pub returns-in-Err : goal.returns-in-Err
returns-in-Err g c =
    let s0 = ap (spanned 0) (tables_are (raw_of c.args.tables.now)) in
    sum-past 0 0 (heap_uses (raw_of c.args.tables.now)) (of_table (raw_of c.args.tables.now) Document) ((of_table (raw_of c.args.tables.now) MethodDebug)
    ++ ((of_table (raw_of c.args.tables.now) LocalVariable)
    ++ ((of_table (raw_of c.args.tables.now) LocalConstant)
    ++ ((of_table (raw_of c.args.tables.now) ImportScope) ++ (of_table (raw_of c.args.tables.now) Custom))))) c.in-Err.fault s0 c.in-Err.ensures.sum

pub returns-in-Err-add_table : goal.returns-in-Err-add_table
returns-in-Err-add_table g c =
    let s0 = ap (spanned 0) (tables_are (raw_of c.args.tables.now)) in
    let s1 = sum-few 0 0 (heap_uses (raw_of c.args.tables.now)) (of_table (raw_of c.args.tables.now) Document)
    ((of_table (raw_of c.args.tables.now) MethodDebug)
    ++ ((of_table (raw_of c.args.tables.now) LocalVariable)
    ++ ((of_table (raw_of c.args.tables.now) LocalConstant)
    ++ ((of_table (raw_of c.args.tables.now) ImportScope) ++ (of_table (raw_of c.args.tables.now) Custom))))) c.in-Ok.sum s0 c.in-Ok.ensures.sum in
    sum-past 0 c.in-Ok.sum (heap_uses (raw_of c.args.tables.now)) (of_table (raw_of c.args.tables.now) MethodDebug)
    ((of_table (raw_of c.args.tables.now) LocalVariable)
    ++ ((of_table (raw_of c.args.tables.now) LocalConstant)
    ++ ((of_table (raw_of c.args.tables.now) ImportScope) ++ (of_table (raw_of c.args.tables.now) Custom)))) c.in-Err-add_table.fault s1
    c.in-Err-add_table.ensures.sum

pub returns-in-Err-add_table-2 : goal.returns-in-Err-add_table-2
returns-in-Err-add_table-2 g c =
    let s0 = ap (spanned 0) (tables_are (raw_of c.args.tables.now)) in
    let s1 = sum-few 0 0 (heap_uses (raw_of c.args.tables.now)) (of_table (raw_of c.args.tables.now) Document)
    ((of_table (raw_of c.args.tables.now) MethodDebug)
    ++ ((of_table (raw_of c.args.tables.now) LocalVariable)
    ++ ((of_table (raw_of c.args.tables.now) LocalConstant)
    ++ ((of_table (raw_of c.args.tables.now) ImportScope) ++ (of_table (raw_of c.args.tables.now) Custom))))) c.in-Ok.sum s0 c.in-Ok.ensures.sum in
    let s2 = sum-few 0 c.in-Ok.sum (heap_uses (raw_of c.args.tables.now)) (of_table (raw_of c.args.tables.now) MethodDebug)
    ((of_table (raw_of c.args.tables.now) LocalVariable)
    ++ ((of_table (raw_of c.args.tables.now) LocalConstant)
    ++ ((of_table (raw_of c.args.tables.now) ImportScope) ++ (of_table (raw_of c.args.tables.now) Custom)))) c.in-Ok-add_table.sum s1
    c.in-Ok-add_table.ensures.sum in
    sum-past 0 c.in-Ok-add_table.sum (heap_uses (raw_of c.args.tables.now)) (of_table (raw_of c.args.tables.now) LocalVariable)
    ((of_table (raw_of c.args.tables.now) LocalConstant)
    ++ ((of_table (raw_of c.args.tables.now) ImportScope) ++ (of_table (raw_of c.args.tables.now) Custom))) c.in-Err-add_table-2.fault s2
    c.in-Err-add_table-2.ensures.sum

pub returns-in-Err-add_table-3 : goal.returns-in-Err-add_table-3
returns-in-Err-add_table-3 g c =
    let s0 = ap (spanned 0) (tables_are (raw_of c.args.tables.now)) in
    let s1 = sum-few 0 0 (heap_uses (raw_of c.args.tables.now)) (of_table (raw_of c.args.tables.now) Document)
    ((of_table (raw_of c.args.tables.now) MethodDebug)
    ++ ((of_table (raw_of c.args.tables.now) LocalVariable)
    ++ ((of_table (raw_of c.args.tables.now) LocalConstant)
    ++ ((of_table (raw_of c.args.tables.now) ImportScope) ++ (of_table (raw_of c.args.tables.now) Custom))))) c.in-Ok.sum s0 c.in-Ok.ensures.sum in
    let s2 = sum-few 0 c.in-Ok.sum (heap_uses (raw_of c.args.tables.now)) (of_table (raw_of c.args.tables.now) MethodDebug)
    ((of_table (raw_of c.args.tables.now) LocalVariable)
    ++ ((of_table (raw_of c.args.tables.now) LocalConstant)
    ++ ((of_table (raw_of c.args.tables.now) ImportScope) ++ (of_table (raw_of c.args.tables.now) Custom)))) c.in-Ok-add_table.sum s1
    c.in-Ok-add_table.ensures.sum in
    let s3 = sum-few 0 c.in-Ok-add_table.sum (heap_uses (raw_of c.args.tables.now)) (of_table (raw_of c.args.tables.now) LocalVariable)
    ((of_table (raw_of c.args.tables.now) LocalConstant)
    ++ ((of_table (raw_of c.args.tables.now) ImportScope) ++ (of_table (raw_of c.args.tables.now) Custom))) c.in-Ok-add_table-2.sum s2
    c.in-Ok-add_table-2.ensures.sum in
    sum-past 0 c.in-Ok-add_table-2.sum (heap_uses (raw_of c.args.tables.now)) (of_table (raw_of c.args.tables.now) LocalConstant)
    ((of_table (raw_of c.args.tables.now) ImportScope) ++ (of_table (raw_of c.args.tables.now) Custom)) c.in-Err-add_table-3.fault s3
    c.in-Err-add_table-3.ensures.sum

pub returns-in-Err-add_table-4 : goal.returns-in-Err-add_table-4
returns-in-Err-add_table-4 g c =
    let s0 = ap (spanned 0) (tables_are (raw_of c.args.tables.now)) in
    let s1 = sum-few 0 0 (heap_uses (raw_of c.args.tables.now)) (of_table (raw_of c.args.tables.now) Document)
    ((of_table (raw_of c.args.tables.now) MethodDebug)
    ++ ((of_table (raw_of c.args.tables.now) LocalVariable)
    ++ ((of_table (raw_of c.args.tables.now) LocalConstant)
    ++ ((of_table (raw_of c.args.tables.now) ImportScope) ++ (of_table (raw_of c.args.tables.now) Custom))))) c.in-Ok.sum s0 c.in-Ok.ensures.sum in
    let s2 = sum-few 0 c.in-Ok.sum (heap_uses (raw_of c.args.tables.now)) (of_table (raw_of c.args.tables.now) MethodDebug)
    ((of_table (raw_of c.args.tables.now) LocalVariable)
    ++ ((of_table (raw_of c.args.tables.now) LocalConstant)
    ++ ((of_table (raw_of c.args.tables.now) ImportScope) ++ (of_table (raw_of c.args.tables.now) Custom)))) c.in-Ok-add_table.sum s1
    c.in-Ok-add_table.ensures.sum in
    let s3 = sum-few 0 c.in-Ok-add_table.sum (heap_uses (raw_of c.args.tables.now)) (of_table (raw_of c.args.tables.now) LocalVariable)
    ((of_table (raw_of c.args.tables.now) LocalConstant)
    ++ ((of_table (raw_of c.args.tables.now) ImportScope) ++ (of_table (raw_of c.args.tables.now) Custom))) c.in-Ok-add_table-2.sum s2
    c.in-Ok-add_table-2.ensures.sum in
    let s4 = sum-few 0 c.in-Ok-add_table-2.sum (heap_uses (raw_of c.args.tables.now)) (of_table (raw_of c.args.tables.now) LocalConstant)
    ((of_table (raw_of c.args.tables.now) ImportScope) ++ (of_table (raw_of c.args.tables.now) Custom)) c.in-Ok-add_table-3.sum s3
    c.in-Ok-add_table-3.ensures.sum in
    sum-past 0 c.in-Ok-add_table-3.sum (heap_uses (raw_of c.args.tables.now)) (of_table (raw_of c.args.tables.now) ImportScope)
    (of_table (raw_of c.args.tables.now) Custom) c.in-Err-add_table-4.fault s4 c.in-Err-add_table-4.ensures.sum

pub returns : goal.returns
returns g c =
    let s0 = ap (spanned 0) (tables_are (raw_of c.args.tables.now)) in
    let s1 = sum-few 0 0 (heap_uses (raw_of c.args.tables.now)) (of_table (raw_of c.args.tables.now) Document)
    ((of_table (raw_of c.args.tables.now) MethodDebug)
    ++ ((of_table (raw_of c.args.tables.now) LocalVariable)
    ++ ((of_table (raw_of c.args.tables.now) LocalConstant)
    ++ ((of_table (raw_of c.args.tables.now) ImportScope) ++ (of_table (raw_of c.args.tables.now) Custom))))) c.in-Ok.sum s0 c.in-Ok.ensures.sum in
    let s2 = sum-few 0 c.in-Ok.sum (heap_uses (raw_of c.args.tables.now)) (of_table (raw_of c.args.tables.now) MethodDebug)
    ((of_table (raw_of c.args.tables.now) LocalVariable)
    ++ ((of_table (raw_of c.args.tables.now) LocalConstant)
    ++ ((of_table (raw_of c.args.tables.now) ImportScope) ++ (of_table (raw_of c.args.tables.now) Custom)))) c.in-Ok-add_table.sum s1
    c.in-Ok-add_table.ensures.sum in
    let s3 = sum-few 0 c.in-Ok-add_table.sum (heap_uses (raw_of c.args.tables.now)) (of_table (raw_of c.args.tables.now) LocalVariable)
    ((of_table (raw_of c.args.tables.now) LocalConstant)
    ++ ((of_table (raw_of c.args.tables.now) ImportScope) ++ (of_table (raw_of c.args.tables.now) Custom))) c.in-Ok-add_table-2.sum s2
    c.in-Ok-add_table-2.ensures.sum in
    let s4 = sum-few 0 c.in-Ok-add_table-2.sum (heap_uses (raw_of c.args.tables.now)) (of_table (raw_of c.args.tables.now) LocalConstant)
    ((of_table (raw_of c.args.tables.now) ImportScope) ++ (of_table (raw_of c.args.tables.now) Custom)) c.in-Ok-add_table-3.sum s3
    c.in-Ok-add_table-3.ensures.sum in
    let s5 = sum-few 0 c.in-Ok-add_table-3.sum (heap_uses (raw_of c.args.tables.now)) (of_table (raw_of c.args.tables.now) ImportScope)
    (of_table (raw_of c.args.tables.now) Custom) c.in-Ok-add_table-4.sum s4 c.in-Ok-add_table-4.ensures.sum in
    c.add_table-6.ensures.sum ∙ sym s5
