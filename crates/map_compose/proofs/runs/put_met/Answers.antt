use Rattle.std.{proofs.Common.{arith, sym, subst, length, take, drop, ◌-◌}, specs.Option.{option_copied}}
use Rattle.map_compose.{specs.Lengths.{AreSums, SumsOf}, proofs.Prefixes.{begins_there, short_rest, rise_rest}, proofs.Insides.{piece_apart, ends_after}}
use Rattle.map_compose.proofs.{JoinedRuns.{joins_same}, Putting.{ok_then}, Sums.{sums_range, same_long}}
use Rattle.map_compose.proofs.runs.put_met.Goals as goal

pub put_prefix-requires : goal.put_prefix-requires
put_prefix-requires c = record {
  run = c.requires.run;
  others = record {
    rise = rise_rest c.args.others.now c.count_ended-from.result c.requires.others.rise;
    short = short_rest c.args.others.now c.count_ended-from.result c.requires.others.short;
  };
}

pub returns-in-None : goal.returns-in-None
returns-in-None c = ok_then c.put_prefix.result
    (λ h. joins_same _ _ _ _ _ _ (begins_there c.args.run c.args.others.now c.count_ended-from.result c.count_ended-from.ensures.ended) h)
    c.put_prefix.ensures

pub slice_bounds-put_wide-count-in-Some : goal.slice_bounds-put_wide-count-in-Some
slice_bounds-put_wide-count-in-Some c =
    let are : AreSums c.in-Some.sums.now c.args.others.now = subst (λ o. SumsOf (option_copied o) c.args.others.now) c.in-Some.is c.requires.sums in
    let same = same_long c.in-Some.sums.now c.args.others.now are in
    let bound = c.count_ended-from.ensures.bound in
    omega (arith, same, bound)

pub slice_bounds-put_wide-start-in-Some : goal.slice_bounds-put_wide-start-in-Some
slice_bounds-put_wide-start-in-Some c =
    let are : AreSums c.in-Some.sums.now c.args.others.now = subst (λ o. SumsOf (option_copied o) c.args.others.now) c.in-Some.is c.requires.sums in
    let same = same_long c.in-Some.sums.now c.args.others.now are in
    let bound = c.count_ended-from.ensures.bound in
    omega (arith, same, bound)

pub put_wide-requires : goal.put_wide-requires
put_wide-requires c =
    let are : AreSums c.in-Some.sums.now c.args.others.now = subst (λ o. SumsOf (option_copied o) c.args.others.now) c.in-Some.is c.requires.sums in
    record {
      run = c.requires.run;
      others = record {
        rise = rise_rest c.args.others.now c.count_ended-from.result c.requires.others.rise;
        short = short_rest c.args.others.now c.count_ended-from.result c.requires.others.short;
      };
      apart = piece_apart c.args.others.now c.count_ended-from.result _ c.requires.apart;
      sums = subst (λ n. AreSums (take (n - c.count_ended-from.result) (drop c.count_ended-from.result c.in-Some.sums.now))
          (take (length c.args.others.now - c.count_ended-from.result) (drop c.count_ended-from.result c.args.others.now)))
          (sym (same_long c.in-Some.sums.now c.args.others.now are)) (sums_range c.in-Some.sums.now c.args.others.now c.count_ended-from.result _ are);
      ends = ends_after c.args.run.new c.args.others.now c.count_ended-from.result c.count_ended-from.ensures.after;
    }

pub returns-in-Some : goal.returns-in-Some
returns-in-Some c = ok_then c.put_wide.result
    (λ h. joins_same _ _ _ _ _ _ (begins_there c.args.run c.args.others.now c.count_ended-from.result c.count_ended-from.ensures.ended) h)
    c.put_wide.ensures
