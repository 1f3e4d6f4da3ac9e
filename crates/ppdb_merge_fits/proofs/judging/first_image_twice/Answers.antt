use Rattle.std.proofs.Common.{sym, ap, slice_get}
use Rattle.ppdb_merge_fits.proofs.Kept.{none_where_all_stay}
use Rattle.ppdb_merge_fits.proofs.judging.first_image_twice.Goals as goal

pub returns-then-all_stay : goal.returns-then-all_stay
returns-then-all_stay c =
    sym (ap (λ l. slice_get l 0) (none_where_all_stay c.args.map.now c.args.rows.now (c.all_stay.ensures.0 c.if-all_stay.true)))
