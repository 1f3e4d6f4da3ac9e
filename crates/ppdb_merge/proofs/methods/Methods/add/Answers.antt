use Rattle.std.proofs.Common.{◌++◌, take}
use Rattle.ppdb_merge.{specs.Indexes.{claims_of}, proofs.Taken.{methods_next}}
use Rattle.ppdb_merge.proofs.methods.Methods.add.Goals as goal

pub loop-imaged-preserved : goal.loop-imaged-preserved
loop-imaged-preserved c = λ claimed holds.
    methods_next claimed c.add_row.new.self c.args.input c.args.rows.now c.loop-imaged.imaged-index _ c.loop-imaged-test.true
    (c.in_ok-add_row.ensures (claimed ++ claims_of c.args.input (take c.loop-imaged.imaged-index c.args.rows.now)) (c.loop-imaged.invariant claimed holds))
