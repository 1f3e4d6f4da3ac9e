use Rattle.ppdb_base.proofs.Written.{puts_cut, puts_then}
use Rattle.std.proofs.Common.{sym, ◌∙◌}
use Rattle.ppdb_verify.specs.Views.{raw_file}
use Rattle.ppdb_show_lines.proofs.Putting.{puts_nothing}
use Rattle.ppdb_show.proofs.Lines.{is_nil, not_nil, no_method, method_text}
use Rattle.ppdb_show.proofs.show.methods.put_method.Goals as goal

pub returns-then-is_empty : goal.returns-then-is_empty
returns-then-is_empty g c =
    let nil = is_nil c.blob.result.now (sym c.is_empty.ensures ∙ c.if-is_empty.true) in
    let there = sym c.blob.ensures.content ∙ nil in
    rw (no_method c.args.printer.form (raw_file c.args.file.now).tables c.args.row c.method_debug-method.result c.method_debug-method.ensures.row there)
    (puts_nothing _ _)

pub returns-in_err-put_line : goal.returns-in_err-put_line
returns-in_err-put_line g c =
    let raw = (raw_file c.args.file.now).tables in
    let some = rw c.blob.ensures.content at (not_nil c.blob.result.now (sym c.is_empty.ensures ∙ c.if-is_empty.false)) in
    (rw (method_text c.args.printer.form raw c.args.row c.method_debug-method.result _ c.method_debug-method.ensures.row some
    c.points_of-points.ensures.signature)
    (puts_cut _ _ _ _ _ _ _ _ c.from_residual.ensures.1 (rw c.signature.ensures at c.in_err-put_line.ensures)))

pub returns : goal.returns
returns g c =
    let raw = (raw_file c.args.file.now).tables in
    let some = rw c.blob.ensures.content at (not_nil c.blob.result.now (sym c.is_empty.ensures ∙ c.if-is_empty.false)) in
    rw (method_text c.args.printer.form raw c.args.row c.method_debug-method.result _ c.method_debug-method.ensures.row some
    c.points_of-points.ensures.signature)
    (puts_then _ _ _ _ _ _ _ _ _ (rw c.signature.ensures at c.in_ok-put_line.ensures) (rw c.points_of-points.ensures.points at c.put_points.ensures))
