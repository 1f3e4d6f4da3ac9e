use Rattle.std.proofs.Common.{◌≡◌, false, sym, ◌∙◌}
use Rattle.type_blobs.specs.Imports.{names_text}
use Rattle.ppdb_verify_total.proofs.Sums.{none-more}
use Rattle.ppdb_verify_total.proofs.inside.add_field.Goals as goal

pub returns-then-not-names_text-clause-sum : goal.returns-then-not-names_text-clause-sum
returns-then-not-names_text-clause-sum c =
    let none : names_text c.args.field.part ≡ false = sym c.names_text.ensures ∙ c.if-not-names_text.true in
    rw none (none-more c.args.total)
