use Rattle.std.proofs.Common.{refl}
use Rattle.blob_grammar.specs.Reader.{fields_from, fields_for, signed_at, unsigned_at}
use Rattle.ppdb_heaps.specs.Heaps.{blob_at}
use Rattle.ppdb_merge_names.specs.References.{references}
use Rattle.ppdb_values.specs.RawFile.{records_of}
use Rattle.ppdb_merge_fits.specs.Clashes.{first_clash}
use Rattle.ppdb_merge_fits.proofs.laws.worked_maps.Goals as goal

pub returns : goal.returns
unfolding first_clash references records_of blob_at fields_from fields_for signed_at unsigned_at
returns c = record {
  nothing = refl;
  point = refl;
  no_image = refl;
  offset_first = refl;
  two_rows = refl;
  exchanged = refl;
  rows_are = refl;
  slot = refl;
  two_slots = refl;
  slots_exchanged = refl;
  dropped = refl;
  pause_lost = refl;
  handler_lost = refl;
  pause_beyond = refl;
  at_the_size = refl;
  in_dropped = refl;
  record_goes = refl;
  hoisted = refl;
  strange_goes = refl;
  strange_stays = refl;
  strange_is_marked = refl;
  strange_type_gone = refl;
  strange_definition_gone = refl;
  strange_module_gone = refl;
  one_row = refl;
  one_number = refl;
  least_image = refl;
  shared = refl;
  not_shared = refl;
  renamed = refl;
  one_name = refl;
  least_second = refl;
  three_one_name = refl;
  names_exchanged = refl;
  no_such_name = refl;
}
