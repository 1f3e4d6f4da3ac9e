use Rattle.ppdb_run.proofs.remapped.accepted.Goals as goal

pub unreachable-requires : goal.unreachable-requires
unreachable-requires g c =
    c.requires.accepted c.in-Err-Fault.field-0-0.code c.in-Err-Fault.field-0-0.place
    (rw c.in-Err-Fault.field-0-is at c.in-Err-Fault.ensures.first).invalid
