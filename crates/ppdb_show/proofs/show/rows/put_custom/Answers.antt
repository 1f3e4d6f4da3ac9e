use Rattle.std.proofs.Common.{sym, ◌∙◌}
use Rattle.ppdb_show.proofs.show.rows.put_custom.Goals as goal

pub returns : goal.returns
returns g c =
    rw (c.custom-custom.ensures.row, sym c.parent_of.ensures ∙ c.in-Some.is) (rw c.guid.ensures at (rw c.blob.ensures.content at c.put_line.ensures))
