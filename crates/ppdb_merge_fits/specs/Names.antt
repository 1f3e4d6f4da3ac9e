-- Rows of documents by their names.
use Rattle.ppdb_values.specs.Names.{slice_cmp, nat_cmp}
use Rattle.std.specs.Prelude.{ℕ, List, Option}
use Rattle.ppdb_merge_fits.specs.declared.documents.Names.{Names}
use Rattle.std.specs.BTreeMap as tree

-- the row to which a name leads
abbrev pub row_of : Names → List ℕ → Option ℕ
row_of names name = tree.get_by (λ key. slice_cmp nat_cmp name key.items) names.rows
