use Rattle.std.{proofs.Common.{arith, subst, sym, take}, specs.Prelude.{get_or}, proofs.lemmas.List.{take_all}}
use Rattle.ppdb_merge.{specs.Rows.{IndexesRows, traces_in}, proofs.RowIndexing.{many_kept, many_traces, named_by, traced_by}}
use Rattle.ppdb_merge.proofs.row_index.RowIndex.extended.Goals as goal

pub bounds-traces-place : goal.bounds-traces-place
bounds-traces-place g c = let many = many_kept c.args.inputs.now c.args.traces.now c.requires.traces in omega (arith, many)

pub inputs-preserved : goal.inputs-preserved
inputs-preserved g c =
    let at = traced_by c.args.inputs.now c.args.traces.now c.inputs.place c.index-inputs-place.result c.index-traces-place.result c.requires.traces
    c.inputs-test.true c.index-inputs-place.is c.index-traces-place.is in
    record {
      place = let before = c.inputs.invariant.place in let more = c.in_ok-add.ensures.inputs in omega (arith, before, more);
      within = omega arith;
      holds = subst (λ l. IndexesRows l c.add.new.self) (sym at.2)
          (c.in_ok-add.ensures.holds (take c.inputs.place (traces_in c.args.inputs.now)) at.0
          (named_by c.as_slice.result.now (get_or c.args.traces.now c.inputs.place c.index-traces-place.result) c.index-traces-place.result _ c.as_slice.ensures
          c.index-traces-place.is at.1) c.inputs.invariant.holds);
    }

pub returns : goal.returns
returns g c =
    subst (λ l. IndexesRows l c.inputs.index)
    (let many = many_traces c.args.inputs.now in take_all c.inputs.place (traces_in c.args.inputs.now) (omega (arith, many))) c.inputs.invariant.holds
