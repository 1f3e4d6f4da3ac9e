use Rattle.std.proofs.Common.{[], ◌∷◌}
use Rattle.ppdb_base.proofs.Written.{puts_cut, puts_then}
use Rattle.ppdb_show_lines.{specs.Heads.{id_line, entry_line}, proofs.Texts.{more_lines}}
use Rattle.ppdb_verify.specs.Views.{raw_file}
use Rattle.ppdb_run.proofs.answer.put_id.Goals as goal

pub returns-in_err-put_id_line : goal.returns-in_err-put_id_line
returns-in_err-put_id_line g c =
    rw (more_lines c.args.printer.form (id_line (raw_file c.args.file.now).id ∷ []) (entry_line (raw_file c.args.file.now).entry ∷ []))
    (puts_cut _ _ _ _ _ _ _ _ c.from_residual.ensures.1 (rw c.head-head.ensures.head at c.in_err-put_id_line.ensures))

pub returns : goal.returns
returns g c =
    rw (more_lines c.args.printer.form (id_line (raw_file c.args.file.now).id ∷ []) (entry_line (raw_file c.args.file.now).entry ∷ []))
    (puts_then _ _ _ _ _ _ _ _ _ (rw c.head-head.ensures.head at c.in_ok-put_id_line.ensures) (rw c.head-head.ensures.head at c.put_entry_line.ensures))
