use Rattle.std.proofs.Common.{◌≡◌, ◌+◌, ◌≤◌, length, take, sum}
use Rattle.ppdb_tables.proofs.counts.Part.fields_end.Given as goal

abbrev pub invariant-loop-len : goal.invariant-loop-len
invariant-loop-len l = record { end : l.end ≡ l.at + sum (take l.len-index l.lens); inside : l.end ≤ length l.bytes }
