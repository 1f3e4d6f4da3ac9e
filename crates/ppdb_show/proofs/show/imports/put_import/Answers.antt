use Rattle.std.proofs.Common.{refl}
use Rattle.ppdb_base.proofs.Written.{puts_cut, puts_then}
use Rattle.ppdb_verify.specs.Views.{raw_file}
use Rattle.ppdb_show.proofs.Lines.{import_text}
use Rattle.ppdb_show.proofs.show.imports.put_import.Goals as goal

pub returns-in_err-put_line : goal.returns-in_err-put_line
returns-in_err-put_line g c =
    let raw = (raw_file c.args.file.now).tables in
    (rw (import_text c.args.printer.form raw c.args.row c.import-import.result c.import-import.ensures.row)
    (puts_cut _ _ _ _ _ _ _ _ c.from_residual.ensures.1 c.in_err-put_line.ensures))

pub returns : goal.returns
returns g c =
    rw (import_text c.args.printer.form (raw_file c.args.file.now).tables c.args.row c.import-import.result c.import-import.ensures.row)
    (puts_then _ _ _ _ _ _ _ _ _ c.in_ok-put_line.ensures (rw c.imports_of-imports.ensures at c.put_uses.ensures))

pub put_uses-requires : goal.put_uses-requires
put_uses-requires g c = rw c.imports_of-imports.ensures refl
