use Rattle.std.{proofs.Common.{◌≡◌, ◌+◌, ◌≤◌, ◌<◌, ℕ, false}, specs.Prelude.{slice_index_or}, specs.Str.{bytes_eq}}
use Rattle.ppdb_values.specs.{declared.file.DocumentValue.{DocumentValue}, Value.{value_of}}
use Rattle.ppdb_verify.specs.Views.{raw_file}
use Rattle.break_lines.proofs.name.document_named.Given as goal

abbrev pub invariant-rows : goal.invariant-rows
invariant-rows g l = record {
  later : l.fn.steps ≤ l.steps;
  cost : l.steps + 1 ≤ l.fn.steps + l.row;
  others : (k : ℕ) (d : DocumentValue) → k + 1 < l.row → bytes_eq (slice_index_or (value_of (raw_file l.file)).documents k d).name l.name ≡ false;
}
