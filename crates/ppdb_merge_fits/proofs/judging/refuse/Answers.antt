use Rattle.std.proofs.Common.{sym, ◌∙◌}
use Rattle.ppdb_merge_fits.proofs.First.{no_first}
use Rattle.ppdb_merge_fits.proofs.judging.refuse.Goals as goal

pub returns-in-None : goal.returns-in-None
returns-in-None c all is = no_first all (sym is ∙ c.in-None.is)
