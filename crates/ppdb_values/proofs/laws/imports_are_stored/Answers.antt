use Rattle.ppdb_values.proofs.StoredImports.{back, forth, numbers_stand, kind_from, kind_to}
use Rattle.ppdb_values.proofs.laws.imports_are_stored.Goals as goal

pub returns : goal.returns
returns c = record {
  back = back;
  forth = forth;
  numbers = numbers_stand;
  writable = λ import a n small_a small_n row token. record {
    from = kind_from import;
    to = kind_to import;
    alias = small_a;
    assembly = row;
    namespace = small_n;
    target = token;
  };
}
