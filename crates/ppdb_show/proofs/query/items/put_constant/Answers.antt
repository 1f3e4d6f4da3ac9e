use Rattle.std.proofs.Common.{arith}
use Rattle.ppdb_tables.{specs.RawOf.{raw_of}, proofs.NumberedRows.{row_within}}
use Rattle.ppdb_verify.specs.Views.{tables_of}
use Rattle.ppdb_show.proofs.Added.{then_ok}
use Rattle.ppdb_show.proofs.query.items.put_constant.Goals as goal

pub put_customs-requires-clause-there : goal.put_customs-requires-clause-there
put_customs-requires-clause-there g c =
    let within = row_within (raw_of (tables_of c.args.file.now)).constants c.args.row c.args.constant.now c.requires in
    let many = c.facts.ensures.rules.shape.constants in
    (within.0, omega (arith, within, many))

pub returns-clause-ok : goal.returns-clause-ok
returns-clause-ok g c = then_ok c.args.printer.form _ _ _ _ _ _ c.in_ok-put_constant_line.ensures c.put_customs.ensures.ok
