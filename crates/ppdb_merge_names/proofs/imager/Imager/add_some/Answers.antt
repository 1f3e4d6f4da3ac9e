use Rattle.ppdb_merge_names.proofs.Going.{none-is}
use Rattle.ppdb_merge_names.proofs.imager.Imager.add_some.Goals as goal

pub returns-then-row-eq0 : goal.returns-then-row-eq0
returns-then-row-eq0 c = rw c.if-row-eq0.true (none-is c.args.self.now)
