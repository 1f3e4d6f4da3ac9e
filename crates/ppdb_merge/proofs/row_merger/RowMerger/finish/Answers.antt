use Rattle.std.{proofs.Common.{◌∙◌, List, Option, ap, inr, sym}, specs.Prelude.{Ok}}
use Rattle.ppdb_base.specs.declared.merge_error.MergeError.{MergeError}
use Rattle.ppdb_merge_items.specs.Unannotated.{value_of_annotated}
use Rattle.ppdb_merge_joined.specs.Joined.{joined}
use Rattle.ppdb_merge.specs.{declared.trace.Trace.{Trace}, Merged.{moved_files, unless}, Rows.{RowMerged, traces_in}, Together.{joined_of, misfit_of}}
use Rattle.ppdb_merge.proofs.Counting.{misfit_counted}
use Rattle.ppdb_merge.proofs.row_merger.RowMerger.finish.Goals as goal

pub returns-in-Some-clause-refused : goal.returns-in-Some-clause-refused
returns-in-Some-clause-refused g c =
    let told = misfit_counted (traces_in c.self.inside.inputs) c.as_slice.result.now c.misfit-told.result (c.as_slice.ensures ∙ c.self.invariant.traces)
    c.misfit-told.ensures in
    inr (ap (λ (v : RowMerged). misfit_of v.traces) (sym c.self.view_is) ∙ sym told ∙ c.in-Some.is)

pub join_traces-requires-clause-fit : goal.join_traces-requires-clause-fit
join_traces-requires-clause-fit g c =
    let told = misfit_counted (traces_in c.self.inside.inputs) c.as_slice.result.now c.misfit-told.result (c.as_slice.ensures ∙ c.self.invariant.traces)
    c.misfit-told.ensures in
    ap misfit_of (c.in_ok-traces.ensures ∙ ap traces_in c.as_slice-2.ensures) ∙ sym told ∙ c.in_default.is

pub returns-clause-joined : goal.returns-clause-joined
returns-clause-joined g c =
    let told = misfit_counted (traces_in c.self.inside.inputs) c.as_slice.result.now c.misfit-told.result (c.as_slice.ensures ∙ c.self.invariant.traces)
    c.misfit-told.ensures in
    ap (λ (v : RowMerged). joined_of v.traces) (sym c.self.view_is)
    ∙ ap (λ (o : Option MergeError). unless o (Ok (value_of_annotated (joined (moved_files (traces_in c.self.inside.inputs)))))) (sym told ∙ c.in_default.is)
    ∙ ap Ok (ap (λ (l : List Trace). value_of_annotated (joined (moved_files l))) (sym (c.in_ok-traces.ensures ∙ ap traces_in c.as_slice-2.ensures))
    ∙ sym c.in_ok-join_traces.ensures.joined)

pub returns-clause-fits : goal.returns-clause-fits
returns-clause-fits g c =
    let told = misfit_counted (traces_in c.self.inside.inputs) c.as_slice.result.now c.misfit-told.result (c.as_slice.ensures ∙ c.self.invariant.traces)
    c.misfit-told.ensures in
    ap (λ (v : RowMerged). misfit_of v.traces) (sym c.self.view_is) ∙ sym told ∙ c.in_default.is
