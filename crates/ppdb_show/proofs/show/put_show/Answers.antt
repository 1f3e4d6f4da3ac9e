use Rattle.ppdb_base.proofs.Written.{puts_cut, puts_then}
use Rattle.ppdb_verify.specs.Views.{raw_file}
use Rattle.ppdb_show.specs.Show.{head_lines, row_lines}
use Rattle.ppdb_show_lines.proofs.Texts.{more_lines}
use Rattle.ppdb_show.proofs.show.put_show.Goals as goal

pub returns-in_err-put_head : goal.returns-in_err-put_head
returns-in_err-put_head g c =
    let raw = raw_file c.args.file.now in
    (rw (more_lines c.args.printer.form (head_lines raw) (row_lines raw.tables)) (puts_cut _ _ _ _ _ _ _ _ c.from_residual.ensures.1 c.in_err-put_head.ensures))

pub returns : goal.returns
returns g c =
    let raw = raw_file c.args.file.now in
    rw (more_lines c.args.printer.form (head_lines raw) (row_lines raw.tables)) (puts_then _ _ _ _ _ _ _ _ _ c.in_ok-put_head.ensures c.put_tables.ensures)
