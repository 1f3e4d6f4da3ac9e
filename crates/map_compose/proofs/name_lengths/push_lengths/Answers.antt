use Rattle.std.proofs.Common.{arith, sym, ap, length, ◌<◌, ◌∙◌}
use Rattle.map_compose.proofs.{NameLengths.{line_inside, lengths_of, lengths_next, no_line_past}, Putting.{take_past}}
use Rattle.map_compose.proofs.name_lengths.push_lengths.Goals as goal

pub lines-preserved : goal.lines-preserved
lines-preserved c =
    let inside : c.lines.index < length c.args.map.now.documents = line_inside c.args.map.now.documents c.lines.index _ _ (sym c.in-Some.ensures) in
    record {
      within = omega (arith, inside);
      lengths = lengths_next c.args.map.now.documents c.lines.index c.spelled_length.result _ c.in-Some.new.now c.lines.lengths.items c.push.new.self.items
          (sym c.in-Some.ensures) c.lines.invariant.lengths c.spelled_length.ensures.length c.in_ok-push.ensures.items;
    }

pub returns : goal.returns
returns c = c.lines.invariant.lengths
    ∙ ap lengths_of (take_past c.args.map.now.documents c.lines.index (no_line_past c.args.map.now.documents c.lines.index (sym c.in_default.ensures)))
