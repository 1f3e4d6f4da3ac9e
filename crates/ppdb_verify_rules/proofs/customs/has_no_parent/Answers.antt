use Rattle.std.proofs.Common.{sym, ◌∙◌}
use Rattle.ppdb_verify_rules.proofs.Parents.{small_table}
use Rattle.ppdb_verify_rules.proofs.customs.has_no_parent.Goals as goal

pub names_no_row-requires : goal.names_no_row-requires
names_no_row-requires c = let h = c.in-Some.is in let k = c.parent_of.ensures in small_table c.args.coded c.in-Some.parent (sym k ∙ h)
