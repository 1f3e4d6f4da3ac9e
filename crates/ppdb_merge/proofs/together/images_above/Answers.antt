use Rattle.std.{proofs.Common.{sym, ap, ◌∙◌, ℕ, List, arith}, specs.Prelude.{slice_get}, specs.List.{filter_map}}
use Rattle.ppdb_base.specs.declared.merge_error.MergeError.{MergeError}
use Rattle.ppdb_merge.{specs.declared.trace.Trace.{Trace}, specs.Together.{above}, proofs.Counting.{all_told, all_past}}
use Rattle.ppdb_merge.proofs.together.images_above.Goals as goal

abbrev told : ℕ × Trace → List MergeError
told t = filter_map (above t) t.1.rows

pub returns-then-is_some : goal.returns-then-is_some
returns-then-is_some g c =
    all_told g.T.Counted.trace told 1 c.args.traces.now c.loop-trace.trace-index c.trace-item.result c.first_above-told.result
    c.loop-trace-test.true c.trace-item.is c.loop-trace.invariant.none
    (ap (λ n. slice_get (told (n, g.T.Counted.trace c.trace-item.result)) 0) (sym c.loop-trace.invariant.input) ∙ sym c.first_above-told.ensures)
    (sym c.is_some.ensures ∙ c.if-is_some.true)

pub loop-trace-preserved : goal.loop-trace-preserved
loop-trace-preserved g c = record {
  input = let input = c.loop-trace.invariant.input in omega (arith, input);
  none =
      all_past g.T.Counted.trace told 1 c.args.traces.now c.loop-trace.trace-index c.trace-item.result
      c.first_above-told.result c.loop-trace-test.true c.trace-item.is c.loop-trace.invariant.none
      (ap (λ n. slice_get (told (n, g.T.Counted.trace c.trace-item.result)) 0) (sym c.loop-trace.invariant.input) ∙ sym c.first_above-told.ensures)
      (sym c.is_some.ensures ∙ c.if-is_some.false);
}
