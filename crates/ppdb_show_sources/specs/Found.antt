-- What is kept of the pairs of a file while its lines are put.
use Rattle.std.specs.Prelude.{◌≡◌, List, Ok}
use Rattle.ppdb_values.specs.declared.file.FileValue.{FileValue}
use Rattle.source_link.specs.declared.pair.Pair.{Pair}
use Rattle.ppdb_show_sources.specs.Links.{file_links, link_lines}

-- links by which each document of the file has the address that the pairs of the file give it
pub record AreFileLinks (value : FileValue) (links : List Pair) : Type 0 where
  pub pairs : List Pair
  pub said : file_links value ≡ Ok pairs
  pub lines : link_lines value links ≡ link_lines value pairs
