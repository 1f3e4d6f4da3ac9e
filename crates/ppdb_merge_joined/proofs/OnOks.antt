-- What two facts of a success give.
use Rattle.std.specs.Prelude.{Result, Ok, Err, OnOk}

pub on_ok_both : {X Y : Type 0} (r : Result X Y) (P Q R : Type 0) → (P → Q → R) → OnOk r P → OnOk r Q → OnOk r R
on_ok_both (Ok x) P Q R give p q = give p q
on_ok_both (Err e) P Q R give p q = tt
