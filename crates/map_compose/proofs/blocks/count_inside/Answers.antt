use Rattle.std.proofs.Common.{arith, ◌-◌, length, drop}
use Rattle.map_compose.{specs.Lengths.{Inside}, proofs.Prefixes.{all_drop}, proofs.Insides.{each_at, inside_ends, all_take, piece_runs, past_kept, counted_joins}}
use Rattle.map_compose.proofs.Sums.{same_long, sums_ordered, sums_between}
use Rattle.map_compose.proofs.blocks.count_inside.Goals as goal

pub bounds-sums-last : goal.bounds-sums-last
bounds-sums-last c =
    let same = same_long c.args.sums.now c.args.others.now c.requires.sums in
    let two = c.requires.two in
    omega (arith, same, two)

pub bounds-sums-1 : goal.bounds-sums-1
bounds-sums-1 c =
    let same = same_long c.args.sums.now c.args.others.now c.requires.sums in
    let two = c.requires.two in
    omega (arith, same, two)

pub overflow_sub-digits : goal.overflow_sub-digits
overflow_sub-digits c =
    let two = c.requires.two in
    sums_ordered c.args.sums.now c.args.others.now 1 (length c.args.others.now - 1) _ _ c.requires.sums (omega (arith, two)) (omega (arith, two))

pub counted_runs-bytes-requires-clause-rise : goal.counted_runs-bytes-requires-clause-rise
counted_runs-bytes-requires-clause-rise c = piece_runs c.args.others.now 1 _ c.requires.rise

pub counted_runs-bytes-requires-clause-inside : goal.counted_runs-bytes-requires-clause-inside
counted_runs-bytes-requires-clause-inside c = all_take (Inside c.args.run) (drop 1 c.args.others.now) _ (all_drop (Inside c.args.run) c.args.others.now 1
    c.requires.inside)

pub counted_runs-bytes-requires-clause-digits : goal.counted_runs-bytes-requires-clause-digits
counted_runs-bytes-requires-clause-digits c =
    let two = c.requires.two in
    sums_between c.args.sums.now c.args.others.now 1 (length c.args.others.now - 1) _ _ c.requires.sums (omega (arith, two)) (omega (arith, two))

pub taken_on-first-requires-clause-inside : goal.taken_on-first-requires-clause-inside
taken_on-first-requires-clause-inside c = let two = c.requires.two in each_at (Inside c.args.run) c.args.others.now 0 _ c.requires.inside (omega (arith, two))

pub put_joined-requires : goal.put_joined-requires
put_joined-requires c =
    let two = c.requires.two in
    inside_ends c.args.run c.args.others.now 0 _ c.taken_on-first.result c.requires.run c.requires.inside (omega (arith, two)) c.taken_on-first.ensures

pub count_on-requires : goal.count_on-requires
count_on-requires c = (past_kept _ _ _ (past_kept _ _ _ c.requires.past c.in_ok-put_joined.ensures.joins.puts) c.in_ok-put_held.ensures).long

pub taken_on-requires-clause-inside : goal.taken_on-requires-clause-inside
taken_on-requires-clause-inside c =
    let two = c.requires.two in
    each_at (Inside c.args.run) c.args.others.now (length c.args.others.now - 1) _ c.requires.inside (omega (arith, two))

pub returns : goal.returns
returns c =
    let two = c.requires.two in
    counted_joins c.args.run c.args.others.now (length c.args.others.now - 1) _ _ c.taken_on-first.result c.taken_on.result _ _ _ _ _ _
    c.counted_runs-bytes.result two
    (omega (arith, two)) c.requires.rise c.requires.apart c.requires.inside c.taken_on-first.ensures c.taken_on.ensures c.in_ok-put_joined.ensures.joins
    c.in_ok-put_joined.ensures.ends c.in_ok-put_held.ensures c.counted_runs-bytes.ensures c.count_on.ensures
