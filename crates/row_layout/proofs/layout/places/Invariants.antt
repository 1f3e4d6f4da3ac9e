use Rattle.std.proofs.Common.{◌≡◌, ◌≤◌, ◌*◌, take, sum, length}
use Rattle.row_layout.specs.Rows.{places_from}
use Rattle.row_layout.proofs.layout.places.Given as goal

abbrev pub invariant-loop-i : goal.invariant-loop-i
invariant-loop-i g l = record {
  so_far : take l.i l.places ≡ places_from 0 (take l.i l.widths);
  sum : l.place ≡ sum (take l.i l.widths);
  short : l.place ≤ 4 * l.i;
  count : length l.places ≡ g.row.N;
}
