use Rattle.std.proofs.Common.{◌+◌, ◌-◌, ◌≡◌, ◌≤◌}
use Rattle.ppdb_show_lines.{proofs.Putting.{Putting}, specs.Forms.{lines_as}}
use Rattle.ppdb_verify.specs.Views.{raw_file}
use Rattle.ppdb_show.{specs.ShowWalk.{lines_between, lines_of_items, list_by, items_of}, proofs.ScopeLists.{begin_of}}
use Rattle.ppdb_show.proofs.show.owned.put_owned.Given as goal

abbrev pub invariant-lists : goal.invariant-lists
invariant-lists g l =
    let sink = g.O.Sink in
    let raw = (raw_file l.file).tables in
    record {
      from : 1 ≤ l.scope;
      to : l.scope ≤ l.scopes + 1;
      first : 1 ≤ l.item;
      begins : l.item ≡ begin_of (list_by l.owned) raw.scopes l.scope (items_of raw l.owned);
      put : Putting (sink.written l.fn.out) (sink.written l.out) (sink.faults l.fn.out) (sink.faults l.out)
          (lines_as l.printer.form (lines_between raw l.owned l.item (items_of raw l.owned + 1))) (lines_as l.printer.form (lines_of_items raw l.owned));
    }

abbrev pub decreases-lists : goal.decreases-lists
decreases-lists g l = l.scopes + 1 - l.scope
