use Rattle.std.proofs.{Common.{arith, drop, ◌-◌}, lemmas.List.{length-take-le, length-drop}}
use Rattle.map_compose.proofs.{Prefixes.{short_at, short_rest, rise_rest}, Insides.{piece_runs, piece_apart, all_inside, past_kept, wide_joins}, Putting.{ok_then}}
use Rattle.map_compose.proofs.Sums.{sums_range, same_long}
use Rattle.map_compose.proofs.runs.put_wide.Goals as goal

pub put_meeting-requires : goal.put_meeting-requires
put_meeting-requires c =
    let bound = c.count_ended-inside.ensures.bound in
    record { run = c.requires.run; other = short_at c.args.others.now 0 _ c.requires.others.short (omega (arith, bound)) }

pub slice_bounds-count_inside-end-2 : goal.slice_bounds-count_inside-end-2
slice_bounds-count_inside-end-2 c =
    let same = same_long c.args.sums.now c.args.others.now c.requires.sums in
    let bound = c.count_ended-inside.ensures.bound in
    omega (arith, same, bound)

pub count_inside-requires : goal.count_inside-requires
count_inside-requires c =
    let bound = c.count_ended-inside.ensures.bound in
    let past = c.is_past.ensures.past in
    record {
      run = c.requires.run;
      rise = piece_runs c.args.others.now 1 _ c.requires.others;
      apart = piece_apart c.args.others.now 1 _ c.requires.apart;
      inside = all_inside c.args.run c.args.others.now c.count_ended-inside.result c.requires.others.rise c.requires.ends c.count_ended-inside.ensures.ended;
      sums = sums_range c.args.sums.now c.args.others.now 1 _ c.requires.sums;
      two =
          let drops = length-drop 1 c.args.others.now in
          let takes = length-take-le (c.count_ended-inside.result - 1) (drop 1 c.args.others.now) (omega (arith, drops, bound)) in
          omega (arith, takes);
      past = past_kept _ _ _ (record { long = past.0 c.if-not-is_past.false; fits = c.is_past.ensures.fits }) c.in_ok-put_meeting.ensures.puts;
    }

pub put_prefix-requires-2 : goal.put_prefix-requires-2
put_prefix-requires-2 c = record {
  run = c.requires.run;
  others = record {
    rise = rise_rest c.args.others.now c.count_ended-inside.result c.requires.others.rise;
    short = short_rest c.args.others.now c.count_ended-inside.result c.requires.others.short;
  };
}

pub returns : goal.returns
returns c =
    let bound = c.count_ended-inside.ensures.bound in
    ok_then c.put_prefix-2.result
    (λ h. wide_joins c.args.run c.args.others.now c.count_ended-inside.result _ _ _ _ _ _ _ _ _ (omega arith) bound
    c.in_ok-put_meeting.ensures c.in_ok-count_inside.ensures h)
    c.put_prefix-2.ensures
