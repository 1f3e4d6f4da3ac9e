use Rattle.std.{proofs.Common.{◌≡◌, ◌++◌, List, map, take}, specs.Prelude.{not}}
use Rattle.ppdb_values.specs.declared.custom.CustomValue.{CustomValue}
use Rattle.ppdb_merge_joined.specs.{Keys.{plain}, Repeats.{IsSeen, key_among}}
use Rattle.ppdb_merge_joined.proofs.repeats.mark.Given as goal

abbrev pub invariant-loop-item : goal.invariant-loop-item
invariant-loop-item g l = (earlier : List CustomValue) → IsSeen earlier l.seen
    → l.marks.items ≡ l.fn.marks.items ++ map (λ item. not (key_among earlier (plain (g.T.Recorded.as_record item)))) (take l.item-index l.input)
