use Rattle.std.proofs.Common.{subst}
use Rattle.type_blobs.specs.{Constants.{constants}, declared.types.TypeLimits.{TypeLimits}}
use Rattle.blob_grammar.specs.Places.{HasEnd}
use Rattle.ppdb_verify_rules.proofs.contents.constant_fault.Goals as goal

pub returns : goal.returns
returns c = subst (λ (l : TypeLimits). HasEnd (constants l) c.args.content.now c.constant_end.result) c.type_limits.ensures c.constant_end.ensures
