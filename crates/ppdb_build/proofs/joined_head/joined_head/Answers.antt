use Rattle.ppdb_build.proofs.Heads.{head_joined}
use Rattle.ppdb_build.proofs.joined_head.joined_head.Goals as goal

pub returns : goal.returns
returns c =
    head_joined c.joined_parts_are_flat.ensures c.args.inputs.now c.index-inputs-0.result c.requires c.index-inputs-0.is c.moved_head.result
    c.moved_head.ensures
