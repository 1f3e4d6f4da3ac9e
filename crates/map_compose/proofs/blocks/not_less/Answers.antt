use Rattle.std.proofs.{Common.{rules, ◌+◌, nat_lt}, lemmas.List.Sorted.{IsPartitionPoint-from_clause, IsPartitionedBy-ltb}}
use Rattle.ppdb_base.specs.declared.offsets.Run.{Run}
use Rattle.map_compose.proofs.Insides.{olds_rise, count_less}
use Rattle.map_compose.proofs.blocks.not_less.Goals as goal

pub returns : goal.returns
returns c =
    let parted = IsPartitionedBy-ltb (λ (o : Run). c.args.run.old + o.old) _ (c.args.least + c.args.run.new)
    (olds_rise c.args.run.old 0 0 _ c.requires.rise.rise) in
    let point = IsPartitionPoint-from_clause (λ (o : Run). nat_lt (c.args.run.old + o.old) (c.args.least + c.args.run.new)) _ _
    c.partition_point-less.ensures.partitioned parted (λ a r q k. search rules) in
    count_less c.args.run c.args.least c.args.others.now c.partition_point-less.result c.requires.inside point
