use Rattle.ppdb_base.proofs.Written.{puts_cut, puts_then}
use Rattle.ppdb_verify.specs.Views.{raw_file}
use Rattle.ppdb_show.proofs.Lines.{rows_text}
use Rattle.ppdb_show.proofs.show.put_tables.Goals as goal

pub returns-in_err-put_rows : goal.returns-in_err-put_rows
returns-in_err-put_rows g c =
    (rw (rows_text c.args.printer.form (raw_file c.args.file.now).tables) (puts_cut _ _ _ _ _ _ _ _ c.from_residual.ensures.1 c.in_err-put_rows.ensures))

pub returns-in_err-put_rows-2 : goal.returns-in_err-put_rows-2
returns-in_err-put_rows-2 g c =
    (rw (rows_text c.args.printer.form (raw_file c.args.file.now).tables)
    (puts_then _ _ _ _ _ _ _ _ _ c.in_ok-put_rows.ensures (puts_cut _ _ _ _ _ _ _ _ c.from_residual-in_err-put_rows-2.ensures.1
    c.in_err-put_rows-2.ensures)))

pub returns-in_err-put_rows-3 : goal.returns-in_err-put_rows-3
returns-in_err-put_rows-3 g c =
    (rw (rows_text c.args.printer.form (raw_file c.args.file.now).tables)
    (puts_then _ _ _ _ _ _ _ _ _ c.in_ok-put_rows.ensures
    (puts_then _ _ _ _ _ _ _ _ _ c.in_ok-put_rows-2.ensures (puts_cut _ _ _ _ _ _ _ _ c.from_residual-in_err-put_rows-3.ensures.1
    c.in_err-put_rows-3.ensures))))

pub returns-in_err-put_owned : goal.returns-in_err-put_owned
returns-in_err-put_owned g c =
    (rw (rows_text c.args.printer.form (raw_file c.args.file.now).tables)
    (puts_then _ _ _ _ _ _ _ _ _ c.in_ok-put_rows.ensures
    (puts_then _ _ _ _ _ _ _ _ _ c.in_ok-put_rows-2.ensures
    (puts_then _ _ _ _ _ _ _ _ _ c.in_ok-put_rows-3.ensures (puts_cut _ _ _ _ _ _ _ _ c.from_residual-in_err-put_owned.ensures.1
    c.in_err-put_owned.ensures)))))

pub returns-in_err-put_owned-2 : goal.returns-in_err-put_owned-2
returns-in_err-put_owned-2 g c =
    (rw (rows_text c.args.printer.form (raw_file c.args.file.now).tables)
    (puts_then _ _ _ _ _ _ _ _ _ c.in_ok-put_rows.ensures
    (puts_then _ _ _ _ _ _ _ _ _ c.in_ok-put_rows-2.ensures
    (puts_then _ _ _ _ _ _ _ _ _ c.in_ok-put_rows-3.ensures
    (puts_then _ _ _ _ _ _ _ _ _ c.in_ok-put_owned.ensures (puts_cut _ _ _ _ _ _ _ _ c.from_residual-in_err-put_owned-2.ensures.1
    c.in_err-put_owned-2.ensures))))))

pub returns-in_err-put_rows-4 : goal.returns-in_err-put_rows-4
returns-in_err-put_rows-4 g c =
    (rw (rows_text c.args.printer.form (raw_file c.args.file.now).tables)
    (puts_then _ _ _ _ _ _ _ _ _ c.in_ok-put_rows.ensures
    (puts_then _ _ _ _ _ _ _ _ _ c.in_ok-put_rows-2.ensures
    (puts_then _ _ _ _ _ _ _ _ _ c.in_ok-put_rows-3.ensures
    (puts_then _ _ _ _ _ _ _ _ _ c.in_ok-put_owned.ensures
    (puts_then _ _ _ _ _ _ _ _ _ c.in_ok-put_owned-2.ensures (puts_cut _ _ _ _ _ _ _ _ c.from_residual-in_err-put_rows-4.ensures.1
    c.in_err-put_rows-4.ensures)))))))

pub returns-in_err-put_rows-5 : goal.returns-in_err-put_rows-5
returns-in_err-put_rows-5 g c =
    (rw (rows_text c.args.printer.form (raw_file c.args.file.now).tables)
    (puts_then _ _ _ _ _ _ _ _ _ c.in_ok-put_rows.ensures
    (puts_then _ _ _ _ _ _ _ _ _ c.in_ok-put_rows-2.ensures
    (puts_then _ _ _ _ _ _ _ _ _ c.in_ok-put_rows-3.ensures
    (puts_then _ _ _ _ _ _ _ _ _ c.in_ok-put_owned.ensures
    (puts_then _ _ _ _ _ _ _ _ _ c.in_ok-put_owned-2.ensures
    (puts_then _ _ _ _ _ _ _ _ _ c.in_ok-put_rows-4.ensures (puts_cut _ _ _ _ _ _ _ _ c.from_residual-in_err-put_rows-5.ensures.1
    c.in_err-put_rows-5.ensures))))))))

pub returns : goal.returns
returns g c = rw (rows_text c.args.printer.form (raw_file c.args.file.now).tables)
    (puts_then _ _ _ _ _ _ _ _ _ c.in_ok-put_rows.ensures
    (puts_then _ _ _ _ _ _ _ _ _ c.in_ok-put_rows-2.ensures
    (puts_then _ _ _ _ _ _ _ _ _ c.in_ok-put_rows-3.ensures
    (puts_then _ _ _ _ _ _ _ _ _ c.in_ok-put_owned.ensures
    (puts_then _ _ _ _ _ _ _ _ _ c.in_ok-put_owned-2.ensures
    (puts_then _ _ _ _ _ _ _ _ _ c.in_ok-put_rows-4.ensures (puts_then _ _ _ _ _ _ _ _ _ c.in_ok-put_rows-5.ensures c.put_rows-6.ensures)))))))
