-- What the digits so far say.
use Rattle.std.{proofs.Common.{◌≡◌, ◌≤◌, take, length}, specs.Str.Parse.{AllDigits, digits_value}}
use Rattle.ppdb_maps.proofs.number.digits.Given as goal

abbrev pub invariant-loop-byte : goal.invariant-loop-byte
invariant-loop-byte l = record {
  are : AllDigits 10 (take l.byte-index l.word);
  say : l.value ≡ digits_value 10 (take l.byte-index l.word);
  few : length l.word ≤ 10;
}
