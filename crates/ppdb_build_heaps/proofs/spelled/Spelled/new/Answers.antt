use Rattle.std.proofs.Common.{ap}
use Rattle.ppdb_build_heaps.proofs.Spellings.{no_items, none_spelled}
use Rattle.ppdb_build_heaps.proofs.spelled.Spelled.new.Goals as goal

pub invariant_of-result : goal.invariant_of-result
invariant_of-result c = none_spelled c.args.kind c.new.result c.new-2.result c.new.ensures c.new-2.ensures

pub returns : goal.returns
returns c = ap (λ items. record { kind = c.args.kind; items = items }) (no_items c.args.kind c.new.result c.new-2.result c.new-2.ensures)
