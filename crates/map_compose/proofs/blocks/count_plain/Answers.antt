use Rattle.std.proofs.Common.{arith}
use Rattle.map_compose.{specs.Lengths.{Inside}, proofs.Insides.{all_take, piece_runs, kept_inside, plain_counted}, proofs.Putting.{ok_then}, proofs.Sums.{same_long}}
use Rattle.map_compose.proofs.Sums.{sums_ordered, sums_before}
use Rattle.map_compose.proofs.blocks.count_plain.Goals as goal

pub bounds-sums-last : goal.bounds-sums-last
bounds-sums-last c = let same = same_long c.args.sums.now c.args.runs.now c.requires.sums in omega (arith, same)

pub bounds-sums-0 : goal.bounds-sums-0
bounds-sums-0 c = let same = same_long c.args.sums.now c.args.runs.now c.requires.sums in omega (arith, same)

pub overflow_sub-digits : goal.overflow_sub-digits
overflow_sub-digits c = sums_ordered c.args.sums.now c.args.runs.now 0 c.in-Some.last _ _ c.requires.sums (omega arith) (omega arith)

pub counted_runs-bytes-requires-clause-rise : goal.counted_runs-bytes-requires-clause-rise
counted_runs-bytes-requires-clause-rise c = piece_runs c.args.runs.now 0 _ c.requires.rise

pub counted_runs-bytes-requires-clause-inside : goal.counted_runs-bytes-requires-clause-inside
counted_runs-bytes-requires-clause-inside c = all_take (Inside _) c.args.runs.now _ (kept_inside c.args.runs.now c.requires.rise.short)

pub counted_runs-bytes-requires-clause-digits : goal.counted_runs-bytes-requires-clause-digits
counted_runs-bytes-requires-clause-digits c = sums_before c.args.sums.now c.args.runs.now c.in-Some.last _ _ c.requires.sums (omega arith)

pub returns : goal.returns
returns c = ok_then c.put_run.result
    (λ h. plain_counted c.args.runs.now c.in-Some.last _ _ _ _ c.counted_runs-bytes.result (omega arith) c.counted_runs-bytes.ensures c.count_on.ensures h)
    c.put_run.ensures
