use Rattle.std.proofs.{Common.{rules, arith, leb, leb-true}, lemmas.Bool.{leb-false}, lemmas.List.Sorted.{IsPartitionPoint-from_clause, IsPartitionedBy-leb}}
use Rattle.ppdb_base.specs.Offsets.{end_of}
use Rattle.ppdb_maps.proofs.Searching.{ends_rise}
use Rattle.map_compose.proofs.runs.count_ended.Goals as goal

pub returns : goal.returns
returns c =
    let parted = IsPartitionedBy-leb end_of _ c.args.offset (ends_rise 0 0 _ c.requires.rise) in
    let point = IsPartitionPoint-from_clause (λ r. leb (end_of r) c.args.offset) _ _ c.partition_point.ensures.partitioned parted
    (λ a r q k. search rules) in
    record {
      bound = c.partition_point.ensures.bound;
      ended = λ k d less inside. leb-true _ _ (point.0 k d (omega arith) less);
      after = λ k d le inside. leb-false _ _ (point.1 k d le inside);
    }
