use Rattle.std.proofs.Common.{◌≡◌, ◌≤◌, length}
use Rattle.metadata_root.{specs.Root.{header_place}, specs.Reading.{IsListing}, proofs.FirstOfRoot.{AreGoodTo}}
use Rattle.metadata_root.proofs.root.read_headers.Given as goal

abbrev pub invariant-loop : goal.invariant-loop
invariant-loop l = record {
  place : l.at ≡ header_place l.bytes l.counter;
  fits : l.at ≤ length l.bytes;
  names : AreGoodTo l.bytes l.counter;
  listing : IsListing l.bytes l.counter l.listing;
}
