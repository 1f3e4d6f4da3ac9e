use Rattle.std.proofs.{Common.{◌++◌, flat_map, ap, ◌∙◌, arith}, lemmas.List.{take_all}}
use Rattle.ppdb_build_heaps.proofs.guids.GuidHeap.put.Goals as goal

pub returns : goal.returns
returns c =
    let into = c.args.into.now in
    c.loop-guid.invariant
    ∙ ap (λ guids. into ++ flat_map (λ guid. guid) guids)
    (take_all c.loop-guid.guid-index c.as_slice-guid-items.result.now (omega arith) ∙ c.as_slice-guid-items.ensures.value)
    ∙ ap (λ guids. into ++ flat_map (λ guid. guid) guids) c.self.view_is
