use Rattle.std.{proofs.Common.{arith, sym, ap, ◌∙◌, ◌≡◌, ◌++◌, ◌∷◌, [], length, subst, ◌<◌, inl}, proofs.lemmas.List.{length-map}, specs.List.{flat_map}}
use Rattle.ppdb_maps.specs.{Map.{MethodLine}, Says.{lined_runs}}
use Rattle.map_compose.{specs.declared.part.Part.TheVariants.{Methods}, specs.Joining.{AreRuns, places}, specs.Runs.{longest}, proofs.Differing.{line_inside}}
use Rattle.map_compose.proofs.{Merging.{few_own}, Places.{long, offset_runs, own_runs, runs_next, places_next, lines_past}}
use Rattle.map_compose.proofs.joined.JoinedRuns.of.Goals as goal

pub push_joined-requires : goal.push_joined-requires
push_joined-requires c = subst (λ o. AreRuns (lined_runs o)) (sym c.method.ensures) (offset_runs c.args.map.now c.in-Some.method c.facts.ensures)

pub overflow_add-index : goal.overflow_add-index
overflow_add-index c =
    let inside : c.lines.index < length c.args.map.now.methods = line_inside c.args.map.now.methods c.lines.index c.in-Some.method (sym c.in-Some.ensures) in
    let most = few_own Methods c.args.map.now c.facts.ensures in
    let same = length-map c.args.map.now.methods (λ (l : MethodLine). l.method) in
    omega (arith, most, same)

pub lines-smaller : goal.lines-smaller
lines-smaller c =
    let inside : c.lines.index < length c.args.map.now.methods = line_inside c.args.map.now.methods c.lines.index c.in-Some.method (sym c.in-Some.ensures) in
    omega arith

pub lines-preserved : goal.lines-preserved
lines-preserved c =
    let inside : c.lines.index < length c.args.map.now.methods = line_inside c.args.map.now.methods c.lines.index c.in-Some.method (sym c.in-Some.ensures) in
    let own = own_runs c.args.map.now c.lines.index c.in-Some.method c.facts.ensures (sym c.in-Some.ensures) in
    let are : c.push_joined.new.runs.items ≡ c.lines.runs.items ++ long own.0 =
    c.in_ok-push_joined.ensures ∙ ap (λ o. c.lines.runs.items ++ longest (lined_runs o)) c.method.ensures
    ∙ ap (λ rs. c.lines.runs.items ++ longest rs) own.1.2 in
    let start : c.len-start.result ≡ length c.lines.runs.items = omega arith in
    let end : c.len-end.result ≡ length c.push_joined.new.runs.items = omega arith in
    record {
      within = omega arith;
      runs = runs_next c.args.map.now.methods c.lines.index own.0 c.lines.runs.items c.push_joined.new.runs.items own.1.0 c.lines.invariant.runs are;
      lines = c.in_ok-push.ensures.items
          ∙ ap (λ n. c.lines.lines.items ++ record { method = c.in-Some.method; start = n; end = c.len-end.result } ∷ []) start
          ∙ ap (λ n. c.lines.lines.items ++ record { method = c.in-Some.method; start = length c.lines.runs.items; end = n } ∷ []) end
          ∙ ap (λ k. c.lines.lines.items ++ record { method = k; start = length c.lines.runs.items; end = length c.push_joined.new.runs.items } ∷ [])
          (sym own.1.1)
          ∙ places_next c.args.map.now.methods c.lines.index own.0 c.lines.runs.items c.push_joined.new.runs.items c.lines.lines.items own.1.0
          c.lines.invariant.runs are c.lines.invariant.lines;
    }

pub returns : goal.returns
returns c = record {
  runs = c.lines.invariant.runs ∙ ap (flat_map long) (lines_past c.args.map.now.methods c.lines.index (sym c.in_default.ensures));
  lines = c.lines.invariant.lines ∙ ap (places 0) (lines_past c.args.map.now.methods c.lines.index (sym c.in_default.ensures));
  sums = inl c.new-sums.ensures.items;
}
