use Rattle.std.{proofs.Common.{◌<◌, ◌++◌, length, map, ap, ◌∙◌, arith}, specs.Prelude.{not}, proofs.lemmas.List.{take_all}}
use Rattle.ppdb_merge_joined.{specs.Keys.{plain}, specs.Repeats.{key_among}, proofs.Marked.{marks_push}}
use Rattle.ppdb_merge_joined.proofs.repeats.mark.Goals as goal

pub loop-item-preserved : goal.loop-item-preserved
loop-item-preserved g c = λ earlier seen.
    let i = c.loop-item.item-index in
    let input = c.args.input.now in
    let less : i < length input = omega arith in
    marks_push c.args.marks.now.items c.loop-item.marks.items c.push.new.self.items (λ item. not (key_among earlier (plain (g.T.Recorded.as_record item))))
    input i c.item-item.result (not c.repeats.result) less c.item-item.is (c.loop-item.invariant earlier seen) (ap not (c.repeats.ensures earlier seen))
    c.in_ok-push.ensures.items

pub returns : goal.returns
returns g c = λ earlier seen.
    c.loop-item.invariant earlier seen
    ∙ ap (λ l. c.args.marks.now.items ++ map (λ item. not (key_among earlier (plain (g.T.Recorded.as_record item)))) l)
    (take_all c.loop-item.item-index c.args.input.now c.loop-item-test.false)
