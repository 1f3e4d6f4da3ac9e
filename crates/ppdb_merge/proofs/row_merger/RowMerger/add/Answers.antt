use Rattle.std.{proofs.Common.{◌≡◌, ◌++◌, ◌∷◌, [], None, ap, arith, length, subst}, specs.Prelude.{Ok}}
use Rattle.ppdb_verify.specs.Views.{raw_file}
use Rattle.ppdb_merge.specs.{Inputs.{AreFitting}, Merged.{is_first, trace_of}, Refusals.{added, refusal_of}, Rows.{IsIndexOf, RowMerged, read_input, read_inputs}}
use Rattle.ppdb_merge.{specs.Rows.{row_trace, traces_in}, proofs.RowAdding.{added_rows, grown_rows}, proofs.RowIndexing.{many_traces}}
use Rattle.ppdb_merge.proofs.row_merger.RowMerger.add.Goals as goal

pub read_rows-requires-clause-few : goal.read_rows-requires-clause-few
read_rows-requires-clause-few g c =
    let few = c.requires in
    let seen = ap (λ (v : RowMerged). length v.traces) c.self.view_is in
    let many = many_traces c.self.inside.inputs in
    let same = ap (λ l. length l) c.as_slice.ensures in
    omega (arith, few, seen, many, same)

pub invariant_of-self-2 : goal.invariant_of-self-2
invariant_of-self-2 g c =
    grown_rows c.self.inside.marks c.self.inside.inputs c.push_both.new.inputs c.args.input c.self.inside.traces c.push_both.new.traces c.in_ok-trace.trace
    c.self.inside.index c.read_rows.new.index c.in_ok-push_both.ensures.inputs c.in_ok-push_both.ensures.traces
    (subst (λ l. c.in_ok-trace.trace ≡ row_trace (trace_of (is_first (traces_in l)) c.args.input.map (raw_file c.args.input.file))) c.as_slice.ensures
    c.in_ok-trace.ensures.trace)
    c.self.invariant
    (subst (λ l. AreFitting c.self.inside.marks (read_inputs l ++ read_input c.args.input ∷ [])) c.as_slice.ensures c.in_ok-trace.ensures.fitting)
    (subst (λ l. IsIndexOf (traces_in l) c.read_rows.new.index) c.as_slice.ensures c.in_ok-trace.ensures.holds)

pub returns-clause-added : goal.returns-clause-added
returns-clause-added g c =
    subst (λ (v : RowMerged). added v.marks v.traces c.args.input.map (raw_file c.args.input.file) ≡ Ok (traces_in c.push_both.new.inputs)) c.self.view_is
    (added_rows c.self.inside.marks c.self.inside.inputs c.push_both.new.inputs c.args.input c.in_ok-push_both.ensures.inputs
    (subst (λ l. refusal_of c.self.inside.marks (traces_in l) c.args.input.map (raw_file c.args.input.file) ≡ None) c.as_slice.ensures
    c.in_ok-trace.ensures.fits))
