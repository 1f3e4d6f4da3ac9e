use Rattle.std.proofs.{Common.{◌≡◌, ◌==◌, false, arith}, lemmas.Bool.Decides.{nat_tests}}
use Rattle.ppdb_run_stops.proofs.unfit.put_unmapped.Goals as goal

pub returns-then-place-eq-ROWS : goal.returns-then-place-eq-ROWS
returns-then-place-eq-ROWS g c =
    rw c.if-place-eq-ROWS.true (rw (c.as_bytes.ensures.value, c.from.ensures) at c.put_text_line.ensures)

pub returns-else-place-eq-ROWS : goal.returns-else-place-eq-ROWS
returns-else-place-eq-ROWS g c =
    let other : (c.args.place.part == 5) ≡ false = grind (arith, nat_tests, c.if-place-eq-ROWS.false) in
    rw other (rw (c.as_bytes.ensures.value, c.part_name.ensures) at c.put_text_line-else-place-eq-ROWS.ensures)
