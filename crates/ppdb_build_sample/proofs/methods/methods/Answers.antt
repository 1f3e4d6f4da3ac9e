use Rattle.std.proofs.Common.{◌+◌, ap}
use Rattle.ppdb_values.specs.declared.file.MethodValue.{MethodValue}
use Rattle.ppdb_build_sample.{specs.Sample.{sample_method}, proofs.Counting.{one_more}}
use Rattle.ppdb_build_sample.proofs.methods.methods.Goals as goal

pub loop-before-preserved : goal.loop-before-preserved
loop-before-preserved c =
    let i = c.loop-before.before in
    let made : MethodValue = record { method = i + 1; signature = 1; points = c.in_ok-points.field-0 } in
    one_more sample_method c.loop-before.methods c.push.new.self made i c.loop-before.invariant
    (ap (λ points. let e : MethodValue = record { method = i + 1; signature = 1; points = points } in e) c.in_ok-points.ensures) c.in_ok-push.ensures.ok
