use Rattle.std.proofs.Common.{List, ◌≡◌, IfOk, subst}
use Rattle.ppdb_merge_names.specs.declared.imaged.Imaged.{Imaged}
use Rattle.ppdb_merge_fits.specs.Signatures.{with_given}
use Rattle.ppdb_merge_fits.proofs.signatures.with_given.Goals as goal

pub returns : goal.returns
returns g c =
    subst (λ (l : List Imaged). IfOk c.with_further.result (λ all. all ≡ with_given c.args.rows l)) c.in_ok-given.ensures c.with_further.ensures
