use Rattle.std.proofs.Common.{sym, subst}
use Rattle.ppdb_base.specs.First.{IsAccepted}
use Rattle.ppdb_verify.specs.{Files.{FileFaults}, Views.{raw_file}}
use Rattle.ppdb_run.proofs.remapped.merged.Goals as goal

pub accepted-requires-clause-accepted : goal.accepted-requires-clause-accepted
accepted-requires-clause-accepted g c = subst (λ l. IsAccepted (FileFaults l)) (sym c.as_slice.ensures) c.requires.accepted

pub moved-requires-clause-says : goal.moved-requires-clause-says
moved-requires-clause-says g c = c.requires.says (raw_file c.in-Ok.verified) (rw c.as_slice.ensures at c.in-Ok.ensures)
