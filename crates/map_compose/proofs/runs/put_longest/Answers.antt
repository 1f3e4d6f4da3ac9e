use Rattle.std.proofs.Common.{arith, sym, length, ◌<◌}
use Rattle.ppdb_maps.specs.Says.{offsets_of, lined_runs}
use Rattle.map_compose.proofs.{Gathering.{run_short, few_runs, joins_next, joins_past}, JoinedRuns.{joins_none, joins_all}, Putting.{within, ok_then}}
use Rattle.map_compose.proofs.runs.put_longest.Goals as goal

pub runs-init : goal.runs-init
runs-init c = record { within = omega arith; joins = joins_none _ c.args.text.now }

pub put_joined-requires : goal.put_joined-requires
put_joined-requires c = let short = run_short (lined_runs (offsets_of c.args.line.now.says)) c.runs.index c.in-Some.run' c.requires
    (sym c.in-Some.ensures) in omega (arith, short.1)

pub overflow_add-index : goal.overflow_add-index
overflow_add-index c =
    let inside : c.runs.index < length (lined_runs (offsets_of c.args.line.now.says)) = within _ c.runs.index c.in-Some.run' (sym c.in-Some.ensures) in
    let few = few_runs (lined_runs (offsets_of c.args.line.now.says)) c.requires in
    omega (arith, few)

pub runs-smaller : goal.runs-smaller
runs-smaller c =
    let inside : c.runs.index < length (lined_runs (offsets_of c.args.line.now.says)) = within _ c.runs.index c.in-Some.run' (sym c.in-Some.ensures) in
    omega arith

pub runs-preserved : goal.runs-preserved
runs-preserved c =
    let inside : c.runs.index < length (lined_runs (offsets_of c.args.line.now.says)) = within _ c.runs.index c.in-Some.run' (sym c.in-Some.ensures) in
    record {
      within = omega arith;
      joins = joins_next _ _ _ _ _ _ (lined_runs (offsets_of c.args.line.now.says)) c.runs.index c.in-Some.run'
          (sym c.in-Some.ensures) c.runs.invariant.joins c.in_ok-put_joined.ensures.joins;
    }

pub returns : goal.returns
returns c = ok_then c.put_held.result
    (λ h. joins_all _ _ _ _ (lined_runs (offsets_of c.args.line.now.says))
    (joins_past _ _ _ _ (lined_runs (offsets_of c.args.line.now.says)) c.runs.index (sym c.in_default.ensures) c.runs.invariant.joins) h) c.put_held.ensures
