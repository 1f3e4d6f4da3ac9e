use Rattle.std.proofs.{Common.{ltb, ltb-true, rules}, lemmas.Bool.{ltb-false}, lemmas.List.Sorted.{IsPartitionPoint-from_clause, IsPartitionedBy-ltb}}
use Rattle.source_link.specs.Search.{rank_at}
use Rattle.source_link.proofs.search.first_not_below.Goals as goal

pub returns-clause-below : goal.returns-clause-below
returns-clause-below c =
    let parted = IsPartitionedBy-ltb (rank_at c.args.at) _ c.args.least c.requires in
    let point = IsPartitionPoint-from_clause (λ p. ltb (rank_at c.args.at p) c.args.least) _ _ c.partition_point.ensures.partitioned parted
    (λ a r q k. search rules) in
    λ k d low high. ltb-true _ _ (point.0 k d low high)

pub returns-clause-above : goal.returns-clause-above
returns-clause-above c =
    let parted = IsPartitionedBy-ltb (rank_at c.args.at) _ c.args.least c.requires in
    let point = IsPartitionPoint-from_clause (λ p. ltb (rank_at c.args.at p) c.args.least) _ _ c.partition_point.ensures.partitioned parted
    (λ a r q k. search rules) in
    λ k d low high. ltb-false _ _ (point.1 k d low high)
