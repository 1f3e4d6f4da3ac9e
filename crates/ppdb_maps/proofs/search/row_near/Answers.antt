use Rattle.std.{proofs.Common.{◌≡◌, ◌&&◌, ◌||◌, true, Some, refl, sym, ap, ◌∙◌}, proofs.lemmas.Bool.{eq-eqb}, specs.Option.{option_copied}, specs.Prelude.{nat_eq}}
use Rattle.std.specs.Prelude.{nat_lt, slice_get}
use Rattle.ppdb_maps.{proofs.Halving.{at_there, by_pair}, proofs.Searching.{item_copied}, specs.declared.entries.RowLine.{RowLine}}
use Rattle.ppdb_maps.proofs.search.row_near.Goals as goal

pub returns-in-Some : goal.returns-in-Some
returns-in-Some c =
    let row = c.in-Some.row.now in
    let is : slice_get c.args.rows.now c.args.index ≡ Some row =
    sym (item_copied c.args.rows.now c.args.index c.get.result c.get.ensures.lookup) ∙ ap option_copied c.in-Some.is in
    let here : (nat_eq row.table c.args.table && nat_eq row.old c.args.old) ≡ true = rw (
      eq-eqb row.table c.args.table c.if-row-table.true,
      eq-eqb row.old c.args.old c.if-row-old.true,
    ) refl in
    sym (at_there (λ (x : RowLine). nat_lt x.table c.args.table || (nat_eq x.table c.args.table && nat_lt x.old c.args.old))
    (λ (x : RowLine). nat_eq x.table c.args.table && nat_eq x.old c.args.old) c.args.rows.now c.args.index row
    (by_pair (λ (x : RowLine). x.table) (λ (x : RowLine). x.old) c.args.table c.args.old c.args.rows.now c.requires) is here)
