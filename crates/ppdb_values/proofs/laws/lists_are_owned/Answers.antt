use Rattle.ppdb_values.proofs.Lists.{owner_in_list, owned_is_list}
use Rattle.ppdb_values.proofs.laws.lists_are_owned.Goals as goal

pub returns : goal.returns
returns c = record {
  item = owner_in_list;
  variables = λ list scopes owner scope items keeps there. owned_is_list list scopes owner scope items keeps there;
  constants = λ list scopes owner scope items keeps there. owned_is_list list scopes owner scope items keeps there;
}
