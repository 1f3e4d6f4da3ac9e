use Rattle.std.proofs.Common.{◌≡◌, length, sym, subst, ◌∙◌}
use Rattle.ppdb_build_heaps.{specs.Interned.{Contents}, proofs.Spellings.{counted}}
use Rattle.ppdb_build_heaps.proofs.spelled.Spelled.count.Goals as goal

pub returns : goal.returns
returns c = subst (λ (heap : Contents). c.len.result ≡ length heap.items) c.self.view_is
    (c.len.ensures ∙ sym (counted c.self.inside.kind c.self.inside.bytes c.self.inside.starts))
