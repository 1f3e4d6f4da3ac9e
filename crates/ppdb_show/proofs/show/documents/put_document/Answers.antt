use Rattle.ppdb_show_lines.proofs.Putting.{puts_memory}
use Rattle.ppdb_show.proofs.show.documents.put_document.Goals as goal

pub returns-in_err-value : goal.returns-in_err-value
returns-in_err-value g c = puts_memory _ _ _ _ c.from_residual.ensures.1

pub returns : goal.returns
returns g c = rw c.document-document.ensures.row (rw c.in_ok-value.ensures at c.put_value.ensures)
