use Rattle.std.proofs.Common.{rules, of_calls, refl}
use denote.Param.Always.{mut_next}
use Rattle.ppdb_cli_files.proofs.Tries.{last, next, none}
use Rattle.ppdb_cli_files.proofs.streams.retried.Goals as goal

pub loop-init : goal.loop-init
loop-init g c = (λ h. h, (18446744073709551615, refl, λ result h. h))

pub returns-in-Ok-clause-answer : goal.returns-in-Ok-clause-answer
returns-in-Ok-clause-answer g c =
    let (left, sum, leaves) = c.loop.invariant.1 in
    last (goal.F-step g) _ left _ _ _ c.call.new.self _ sum c.loop-test.true leaves (search of_calls) (search rules)

pub returns-in-Err-2-clause-answer : goal.returns-in-Err-2-clause-answer
returns-in-Err-2-clause-answer g c =
    let (left, sum, leaves) = c.loop.invariant.1 in
    last (goal.F-step g) _ left _ _ _ c.call.new.self _ sum c.loop-test.true leaves (search of_calls) (search rules)

pub loop-preserved : goal.loop-preserved
loop-preserved g c =
    let (left, sum, leaves) = c.loop.invariant.1 in (
      λ h. mut_next _ _ _ _ _ _ c.call.ensures refl (c.loop.invariant.0 h),
      next (goal.F-step g) _ left _ _ _ c.call.new.self c.in-Err.signal sum c.loop-test.true leaves (search of_calls) (search rules),
    )

pub returns-clause-answer : goal.returns-clause-answer
returns-clause-answer g c =
    let (left, sum, leaves) = c.loop.invariant.1 in
    none _ _ left _ _ _ _ sum (search rules) leaves c.too_many_tries.ensures
