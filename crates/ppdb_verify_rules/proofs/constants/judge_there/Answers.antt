use Rattle.std.proofs.Common.{◌≡◌, Some, sym}
use Rattle.ppdb_heaps.specs.Heaps.{text_at}
use Rattle.ppdb_tables.specs.RawOf.{raw_of}
use Rattle.ppdb_verify_rules.proofs.{ListOwners.{constants_from_1, text_there}, ConstantFaults.{no_text_first, alone_first}}
use Rattle.ppdb_verify_rules.proofs.constants.judge_there.Goals as goal

pub returns-in_default-clause-err : goal.returns-in_default-clause-err
returns-in_default-clause-err c = no_text_first (raw_of c.args.tables.now) c.args.row c.args.constant.now c.requires.there c.fault.result c.requires.judged
    (sym (rw c.strings.ensures at c.in_default.ensures)) c.fault.ensures

pub returns-then-row_count-eq0-clause-err : goal.returns-then-row_count-eq0-clause-err
returns-then-row_count-eq0-clause-err c =
    let there : text_at (raw_of c.args.tables.now).texts c.args.constant.now.name ≡ Some c.in-Some.name.now = sym (rw c.strings.ensures at c.in-Some.ensures) in
    alone_first (raw_of c.args.tables.now) c.args.row c.args.constant.now c.requires.there c.fault-then-row_count-eq0.result c.requires.judged
    (text_there (raw_of c.args.tables.now).texts c.args.constant.now.name c.in-Some.name.now there) (
      constants_from_1 (raw_of c.args.tables.now) c.args.row c.args.constant.now c.requires.there c.requires.judged
          (rw c.row_count.ensures.count at c.if-row_count-eq0.true),
      rw c.row_count.ensures.count at c.if-row_count-eq0.true,
    )
    c.fault-then-row_count-eq0.ensures

pub returns-clause-text : goal.returns-clause-text
returns-clause-text c = sym (rw c.strings.ensures at c.in-Some.ensures)
