-- What the digits so far say.
use Rattle.std.{proofs.Common.{◌≡◌, ◌≤◌, take}, specs.Str.Parse.{AllDigits, digits_value}}
use Rattle.ppdb_maps.proofs.one_pass.number_before.Given as goal

abbrev pub invariant-loop-byte : goal.invariant-loop-byte
invariant-loop-byte l = record {
  counted : l.count ≡ l.byte-index;
  few : l.count ≤ 9;
  are : AllDigits 10 (take l.count l.bytes);
  say : l.value ≡ digits_value 10 (take l.count l.bytes);
}
