use Rattle.std.proofs.Common.{arith, ◌∙◌}
use Rattle.map_compose.proofs.{Lengths.{escaped_long}, NameLengths.{counted_name, moved_short}}
use Rattle.ppdb_maps.specs.Map.{moved_name}
use Rattle.map_compose.proofs.name_lengths.NameLengths.of_moved.Goals as goal

pub returns-in-Some-clause-length : goal.returns-in-Some-clause-length
returns-in-Some-clause-length c =
    c.index.ensures ∙ counted_name c.args.map.now c.args.self.now.lengths.items c.args.name.now c.in-Some.line c.index.result.now
    c.facts.ensures c.requires.are c.in-Some.ensures

pub returns-in-Some-clause-few : goal.returns-in-Some-clause-few
returns-in-Some-clause-few c =
    let is = c.index.ensures ∙ counted_name c.args.map.now c.args.self.now.lengths.items c.args.name.now c.in-Some.line c.index.result.now
    c.facts.ensures c.requires.are c.in-Some.ensures in
    let few = escaped_long (moved_name c.args.map.now c.args.name.now)
    (moved_short 134217728 c.args.map.now c.args.name.now c.requires.fit c.requires.short) in
    omega (arith, is, few)
