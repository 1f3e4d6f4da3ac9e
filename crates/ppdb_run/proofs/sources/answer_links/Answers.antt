use Rattle.ppdb_base.proofs.Written.{prefix_nothing}
use Rattle.ppdb_run.proofs.Cuts.{on_cut}
use Rattle.ppdb_run.proofs.sources.answer_links.Goals as goal

pub returns-in-Err-clause-cut : goal.returns-in-Err-clause-cut
returns-in-Err-clause-cut g c = on_cut _ (prefix_nothing _ _)
