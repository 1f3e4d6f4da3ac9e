-- What inputs come to that were added one after the other.
use Rattle.std.specs.Prelude.{◌≤◌, ℕ, List, [], length, map}
use Rattle.ppdb_merge_items.specs.Each.{Each}
use Rattle.ppdb_merge.specs.{declared.trace.Trace.Trace, Inputs.{ReadInput, IsValidInput, AreAdded, moved_by}, Kept.AreInputs}

-- Valid inputs that are added one after the other are inputs that fit, with these traces.
abbrev pub AddedInputsFit : Type 0
AddedInputsFit = (marks : List (List ℕ)) (inputs : List ReadInput) (traces : List Trace) → length inputs ≤ 256 → Each IsValidInput inputs
    → AreAdded marks [] inputs traces → AreInputs traces (map moved_by inputs)
