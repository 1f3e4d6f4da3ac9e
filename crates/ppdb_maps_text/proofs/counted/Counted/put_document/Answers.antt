use Rattle.ppdb_maps_text.proofs.Putting.{ok_then, puts_words}
use Rattle.ppdb_maps_text.proofs.counted.Counted.put_document.Goals as goal

pub returns : goal.returns
returns c = ok_then c.put-2.result c.put-2.ensures
    (puts_words _ _ _ _ _ _ _ _ c.in_ok-put.ensures c.in_ok-put_spelled.ensures c.in_ok-put_spelled-2.ensures)
