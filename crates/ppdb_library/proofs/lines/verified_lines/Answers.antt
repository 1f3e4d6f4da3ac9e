use Rattle.std.proofs.Common.{◌∙◌, ◌++◌, map, length, drop, ap}
use Rattle.ppdb_verify.specs.Views.{raw_file}
use Rattle.ppdb_library.{specs.Lines.{line_of}, proofs.OneRaw.{one_raw}}
use Rattle.ppdb_library.proofs.lines.verified_lines.Goals as goal

pub returns-in-Ok-clause-lines : goal.returns-in-Ok-clause-lines
returns-in-Ok-clause-lines g c = λ done raw is.
    c.put_lines.ensures ∙ ap (λ raw. map (line_of raw) c.args.frames.now ++ drop (length c.args.frames.now) c.args.lines.now)
    (one_raw c.args.file.now (raw_file c.in-Ok.file) raw c.in-Ok.ensures.accepted c.in-Ok.ensures.file is)

pub returns-in-Err-Fault-clause-refused : goal.returns-in-Err-Fault-clause-refused
returns-in-Err-Fault-clause-refused g c = λ refused accepted.
    let first = rw c.in-Err-Fault.field-0-is at c.in-Err-Fault.ensures.first in accepted c.in-Err-Fault.field-0-0.code c.in-Err-Fault.field-0-0.place first.invalid
