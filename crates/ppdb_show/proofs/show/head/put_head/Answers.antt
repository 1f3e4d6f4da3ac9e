use Rattle.ppdb_base.proofs.Written.{puts_cut, puts_then}
use Rattle.ppdb_verify.specs.Views.{raw_file}
use Rattle.ppdb_show.proofs.Lines.{head_text}
use Rattle.ppdb_show.proofs.show.head.put_head.Goals as goal

pub returns-in_err-put_id_line : goal.returns-in_err-put_id_line
returns-in_err-put_id_line g c =
    (rw (head_text c.args.printer.form (raw_file c.args.file.now))
    (puts_cut _ _ _ _ _ _ _ _ c.from_residual.ensures.1 (rw c.head-head.ensures.head at c.in_err-put_id_line.ensures)))

pub returns-in_err-put_entry_line : goal.returns-in_err-put_entry_line
returns-in_err-put_entry_line g c =
    (rw (head_text c.args.printer.form (raw_file c.args.file.now))
    (puts_then _ _ _ _ _ _ _ _ _ (rw c.head-head.ensures.head at c.in_ok-put_id_line.ensures)
    (puts_cut _ _ _ _ _ _ _ _ c.from_residual-in_err-put_entry_line.ensures.1 (rw c.head-head.ensures.head at c.in_err-put_entry_line.ensures))))

pub returns : goal.returns
returns g c =
    rw (head_text c.args.printer.form (raw_file c.args.file.now))
    (puts_then _ _ _ _ _ _ _ _ _ (rw c.head-head.ensures.head at c.in_ok-put_id_line.ensures)
    (puts_then _ _ _ _ _ _ _ _ _ (rw c.head-head.ensures.head at c.in_ok-put_entry_line.ensures) (rw c.tables.ensures.tables at c.put_counts.ensures)))
