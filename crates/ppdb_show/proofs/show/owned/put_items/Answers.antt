use Rattle.std.proofs.Common.{arith}
use Rattle.ppdb_show_lines.proofs.Putting.{put_none, put_piece, put_prefix, put_whole}
use Rattle.ppdb_verify.specs.Views.{raw_file}
use Rattle.ppdb_show.{specs.ShowWalk.{lines_of_item}, proofs.Lines.{next_row, last_row}, proofs.Numbered.{items_counted}}
use Rattle.ppdb_show.proofs.show.owned.put_items.Goals as goal

pub put_item-requires-clause-there : goal.put_item-requires-clause-there
put_item-requires-clause-there g c =
    let counted = items_counted (raw_file c.args.file.now).tables c.args.owned c.facts.ensures.rules.shape in
    let last = c.requires.last in
    (omega arith, omega (arith, counted, last))

pub items-init : goal.items-init
items-init g c = record { from = omega arith; to = omega arith; put = put_none (g.O.Sink.written c.args.out.now) _ _ }

pub returns-in_err-put_item : goal.returns-in_err-put_item
returns-in_err-put_item g c =
    let raw = (raw_file c.args.file.now).tables in
    put_prefix _ _ _ _ _ _ _ _ _ _ _ (rw (next_row c.args.printer.form (lines_of_item raw c.args.owned) c.items.item c.args.items.end (omega arith)) at
    c.items.invariant.put) c.from_residual.ensures.1 c.in_err-put_item.ensures

pub items-preserved : goal.items-preserved
items-preserved g c =
    let raw = (raw_file c.args.file.now).tables in
    record {
      from = omega arith;
      to = omega arith;
      put = put_piece _ _ _ _ _ _ _ _ _ (rw (next_row c.args.printer.form (lines_of_item raw c.args.owned) c.items.item c.args.items.end (omega arith)) at
          c.items.invariant.put) c.in_ok-put_item.ensures;
    }

pub returns : goal.returns
returns g c =
    put_whole _ _ _ _ _ (rw (last_row c.args.printer.form (lines_of_item (raw_file c.args.file.now).tables c.args.owned) c.items.item c.args.items.end
    (omega arith)) at c.items.invariant.put)
