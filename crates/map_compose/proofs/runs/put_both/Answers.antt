use Rattle.std.proofs.Common.{arith, sym, length, ◌<◌}
use Rattle.ppdb_maps.specs.Says.{offsets_of, lined_runs}
use Rattle.map_compose.{specs.Runs.{met}, proofs.Gathering.{run_short, few_runs, met_next, met_past}, proofs.JoinedRuns.{joins_none, joins_all}}
use Rattle.map_compose.proofs.Putting.{within, ok_then}
use Rattle.map_compose.proofs.runs.put_both.Goals as goal

pub runs-init : goal.runs-init
runs-init c = record { within = omega arith; joins = joins_none _ c.args.text.now }

pub put_met-requires : goal.put_met-requires
put_met-requires c = record {
  run = run_short (lined_runs (offsets_of c.args.line.now.says)) c.runs.index c.in-Some.run' c.requires.line (sym c.in-Some.ensures);
  others = c.requires.others;
  apart = c.requires.apart;
  sums = c.requires.sums;
}

pub overflow_add-index : goal.overflow_add-index
overflow_add-index c =
    let inside : c.runs.index < length (lined_runs (offsets_of c.args.line.now.says)) = within _ c.runs.index c.in-Some.run' (sym c.in-Some.ensures) in
    let few = few_runs (lined_runs (offsets_of c.args.line.now.says)) c.requires.line in
    omega (arith, few)

pub runs-smaller : goal.runs-smaller
runs-smaller c =
    let inside : c.runs.index < length (lined_runs (offsets_of c.args.line.now.says)) = within _ c.runs.index c.in-Some.run' (sym c.in-Some.ensures) in
    omega arith

pub runs-preserved : goal.runs-preserved
runs-preserved c =
    let inside : c.runs.index < length (lined_runs (offsets_of c.args.line.now.says)) = within _ c.runs.index c.in-Some.run' (sym c.in-Some.ensures) in
    record {
      within = omega arith;
      joins = met_next _ _ _ _ _ _ (lined_runs (offsets_of c.args.line.now.says)) c.args.others.now c.runs.index c.in-Some.run'
          (sym c.in-Some.ensures) c.runs.invariant.joins c.in_ok-put_met.ensures;
    }

pub returns : goal.returns
returns c = ok_then c.put_held.result
    (λ h. joins_all _ _ _ _ (met (lined_runs (offsets_of c.args.line.now.says)) c.args.others.now)
    (met_past _ _ _ _ (lined_runs (offsets_of c.args.line.now.says)) c.args.others.now c.runs.index
    (sym c.in_default.ensures) c.runs.invariant.joins) h) c.put_held.ensures
