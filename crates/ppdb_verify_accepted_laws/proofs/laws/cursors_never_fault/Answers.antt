use Rattle.ppdb_verify_accepted_laws.proofs.BlobsRead.{never_fault}
use Rattle.ppdb_verify_accepted_laws.proofs.laws.cursors_never_fault.Goals as goal

pub returns : goal.returns
returns c = never_fault
