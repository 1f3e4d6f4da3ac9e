-- What a map says of one method's offsets.
use Rattle.std.specs.Prelude.{ℕ, List, [], Option, Some, None}
use Rattle.ppdb_base.specs.{declared.offsets.Run.Run, Offsets.{Offsets, every, gone, lined}}
use Rattle.ppdb_maps.specs.declared.says.Says.{Says, TheVariants.{Every, Gone, Lined}}

abbrev pub offsets_of : Says → Offsets
offsets_of Every = every
offsets_of Gone = gone
offsets_of (Lined runs old_size new_size) = lined runs.now old_size new_size

-- the old and the new size, where there is a line
abbrev pub sizes_of : Offsets → Option (ℕ × ℕ)
sizes_of every = None
sizes_of gone = None
sizes_of (lined runs old new) = Some (old, new)

-- the runs of a line
abbrev pub lined_runs : Offsets → List Run
lined_runs every = []
lined_runs gone = []
lined_runs (lined runs old new) = runs

abbrev pub run_numbers : Run → ℕ × ℕ × ℕ
run_numbers run = (run.old, run.new, run.length)
