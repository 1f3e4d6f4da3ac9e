use Rattle.std.{proofs.Common.{sym, ap, subst, ◌∙◌, ◌≡◌, ◌∷◌, map, Some}, specs.Option.{option_map, option_copied}}
use Rattle.ppdb_maps.specs.{declared.line.Line.TheVariants.{Method, Kept}, Map.{method_line, offsets_in}, Says.{lined_runs, sizes_of, offsets_of}}
use Rattle.map_compose.{specs.Composition.{sizes_then}, specs.Joining.{AreRuns, runs_of, runs_after, lent}, proofs.Following.{follows_image}, specs.Laws.{Apart}}
use Rattle.map_compose.{specs.Lengths.{SumsOf}, proofs.Lined.{others_run, others_apart, line_is}, proofs.Places.{long, offset_runs}, proofs.Putting.{ok_then}}
use Rattle.map_compose.proofs.Putting.{says_first, says_same}
use Rattle.map_compose.proofs.methods.put_line.Goals as goal

pub put_runs-requires-clause-line : goal.put_runs-requires-clause-line
put_runs-requires-clause-line c = subst (λ o. AreRuns (lined_runs o)) (sym c.method-before.ensures) (offset_runs c.args.first.now c.args.method c.facts.ensures)

pub put_runs-requires-clause-others : goal.put_runs-requires-clause-others
put_runs-requires-clause-others c = subst (λ o. AreRuns (runs_of o)) (sym (c.of_method-others.ensures c.args.second.now c.facts-2.ensures c.requires.joined))
    (others_run c.args.second.now c.in-Some.image c.facts-2.ensures)

pub put_runs-requires-clause-apart : goal.put_runs-requires-clause-apart
put_runs-requires-clause-apart c = subst (λ o. Apart (runs_of o)) (sym (c.of_method-others.ensures c.args.second.now c.facts-2.ensures c.requires.joined))
    (others_apart c.args.second.now c.in-Some.image)

pub put_runs-requires-clause-sums : goal.put_runs-requires-clause-sums
put_runs-requires-clause-sums c = subst (λ o. SumsOf (option_copied c.sums_of.result) (runs_of o))
    (sym (c.of_method-others.ensures c.args.second.now c.facts-2.ensures c.requires.joined))
    (c.sums_of.ensures c.args.second.now c.facts-2.ensures c.requires.joined)

pub returns-in_ok-put_method-in-Some-sizes_by_both : goal.returns-in_ok-put_method-in-Some-sizes_by_both
returns-in_ok-put_method-in-Some-sizes_by_both c =
    let follows = follows_image c.args.first.now c.args.second.now c.args.method c.in-Some.image (sym c.in-Some.ensures) in
    let lends = c.of_method-others.ensures c.args.second.now c.facts-2.ensures c.requires.joined in
    let sizes : sizes_then (sizes_of (offsets_in c.args.first.now c.args.method)) (sizes_of (offsets_in c.args.second.now c.in-Some.image))
    ≡ Some (c.in-Some-sizes_by_both.old_size, c.in-Some-sizes_by_both.new_size) =
    ap (λ o. sizes_then (sizes_of o) (sizes_of (offsets_in c.args.second.now c.in-Some.image))) (sym c.method-before.ensures)
    ∙ ap (λ o. sizes_then (sizes_of (offsets_of c.method-before.result.says)) (sizes_of o)) (sym c.method.ensures)
    ∙ sym (c.in-Some-sizes_by_both.ensures ∙ ap (λ p. sizes_then p c.sizes-2.result) c.sizes.ensures
    ∙ ap (λ p. sizes_then (sizes_of (offsets_of c.method-before.result.says)) p) c.sizes-2.ensures) in
    ok_then c.put_runs.result
    (λ h. says_same c.args.text.now c.put_runs.new.text _ _
    (sym (line_is c.args.first.now c.args.second.now c.args.method c.in-Some.image c.facts.ensures c.facts-2.ensures c.requires.agree follows
    c.in-Some-sizes_by_both.old_size c.in-Some-sizes_by_both.new_size sizes
    ∙ ap (λ o. Method c.args.method c.in-Some-sizes_by_both.old_size c.in-Some-sizes_by_both.new_size ∷ map (λ r. Kept r)
    (runs_after o (option_map long (method_line c.args.second.now c.in-Some.image)))) (sym c.method-before.ensures)
    ∙ ap (λ o. Method c.args.method c.in-Some-sizes_by_both.old_size c.in-Some-sizes_by_both.new_size ∷ map (λ r. Kept r)
    (runs_after (offsets_of c.method-before.result.says) o)) (sym lends)))
    (says_first c.args.text.now _ c.put_runs.new.text (Method c.args.method c.in-Some-sizes_by_both.old_size c.in-Some-sizes_by_both.new_size)
    (map (λ r. Kept r) (runs_after (offsets_of c.method-before.result.says)
    (lent c.of_method-others.result))) c.in_ok-put_method-in-Some-sizes_by_both.ensures h)) c.put_runs.ensures
