use Rattle.std.proofs.Common.{ℕ, List, ◌++◌, take}
use Rattle.ppdb_merge_names.specs.declared.imaged.Imaged.{Imaged}
use Rattle.ppdb_merge.specs.Indexes.{HoldsMethods, claims_of}
use Rattle.ppdb_merge.proofs.methods.Methods.add.Given as goal

abbrev pub invariant-loop-imaged : goal.invariant-loop-imaged
invariant-loop-imaged l = (claimed : List (ℕ × Imaged)) → HoldsMethods claimed l.initial.self
    → HoldsMethods (claimed ++ claims_of l.input (take l.imaged-index l.rows)) l.self
