use Rattle.ppdb_show_lines.specs.Values.{guid_text}
use Rattle.ppdb_show_lines.proofs.values.put_hyphenated.Goals as goal

pub returns : goal.returns
unfolding guid_text
returns g c = rw c.from_bytes_le.ensures at (rw c.hyphenated-guid.ensures at (rw c.encode_lower.ensures.text at (rw c.as_bytes.ensures.value at c.put.ensures)))
