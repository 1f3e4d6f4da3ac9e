use Rattle.std.proofs.Common.{arith, sym, length, ◌<◌}
use Rattle.ppdb_maps.specs.Says.{offsets_of, lined_runs}
use Rattle.map_compose.proofs.{Gathering.{run_short, few_runs, gathers_none, gathers_next, gathers_all}, Putting.{within, ok_then}}
use Rattle.map_compose.proofs.joined.push_joined.Goals as goal

pub runs-init : goal.runs-init
runs-init c = record { within = omega arith; gathers = gathers_none _ }

pub join-step-requires : goal.join-step-requires
join-step-requires c = let short = run_short (lined_runs (offsets_of c.args.line.now.says)) c.runs.index c.in-Some.run' c.requires
    (sym c.in-Some.ensures) in omega (arith, short.1)

pub overflow_add-index : goal.overflow_add-index
overflow_add-index c =
    let inside : c.runs.index < length (lined_runs (offsets_of c.args.line.now.says)) = within _ c.runs.index c.in-Some.run' (sym c.in-Some.ensures) in
    let few = few_runs (lined_runs (offsets_of c.args.line.now.says)) c.requires in
    omega (arith, few)

pub runs-smaller : goal.runs-smaller
runs-smaller c =
    let inside : c.runs.index < length (lined_runs (offsets_of c.args.line.now.says)) = within _ c.runs.index c.in-Some.run' (sym c.in-Some.ensures) in
    omega arith

pub runs-preserved : goal.runs-preserved
runs-preserved c =
    let inside : c.runs.index < length (lined_runs (offsets_of c.args.line.now.says)) = within _ c.runs.index c.in-Some.run' (sym c.in-Some.ensures) in
    record {
      within = omega arith;
      gathers = gathers_next _ _ _ _ _ c.join-step.result.given (lined_runs (offsets_of c.args.line.now.says)) c.runs.index c.in-Some.run'
          (sym c.in-Some.ensures)
          c.runs.invariant.gathers c.join-step.ensures.joins c.in_ok-push_held.ensures;
    }

pub returns : goal.returns
returns c = ok_then c.push_held-2.result
    (λ h. gathers_all _ _ _ _ (lined_runs (offsets_of c.args.line.now.says)) c.runs.index
    (sym c.in_default.ensures) c.runs.invariant.gathers h) c.push_held-2.ensures
