use Rattle.std.proofs.Common.{refl}
use Rattle.ppdb_merge.proofs.laws.worked_merges.Goals as goal

pub returns : goal.returns
returns c = record {
  taken = refl;
  least = refl;
  conflict = refl;
  renamed = refl;
  new_name = refl;
  link_differs = refl;
  conflict_first = refl;
  one_link = refl;
  no_line = refl;
  no_record = refl;
  another_module = refl;
  its_module = refl;
  module_gone = refl;
  counts = refl;
  above = refl;
  other_table = refl;
  joins = refl;
}
