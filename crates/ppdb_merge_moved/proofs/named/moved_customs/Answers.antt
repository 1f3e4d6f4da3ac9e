use Rattle.std.{proofs.Common.{◌≡◌, length, map, ap, ◌∙◌}, specs.List.{filter_map}, proofs.lemmas.List.{length-map}}
use Rattle.ppdb_maps.specs.Map.{Map}
use Rattle.ppdb_merge_moved.{specs.Moved.{linked, moved_record}, proofs.Lists.{filter_map-after, refill_all}}
use Rattle.ppdb_merge_moved.proofs.named.moved_customs.Goals as goal

pub returns : goal.returns
returns c =
    let m : Map = c.args.by.now in
    let each : c.link_customs.new.customs ≡ map (linked m) c.args.customs = cc (c.in_ok-link_customs.ensures, c.as_mut_slice.ensures.items) in
    let same : length c.link_customs.new.customs ≡ length c.args.customs = ap length each ∙ length-map c.args.customs (linked m) in
    c.in_ok-moved.ensures ∙ ap (filter_map (moved_record m)) (refill_all c.args.customs c.link_customs.new.customs same ∙ each)
    ∙ filter_map-after (moved_record m) (linked m) c.args.customs
