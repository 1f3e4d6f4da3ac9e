use Rattle.std.{proofs.Common.{length, take, ◌≤◌, ◌-◌}, specs.List.{AllByRecursion}}
use Rattle.map_compose.specs.Fits.{IsShortLine}
use Rattle.map_compose.proofs.fits.names_fit.Given as goal

abbrev pub invariant-lines : goal.invariant-lines
invariant-lines l = record {
  few : l.index ≤ 134217728;
  within : l.index ≤ length l.map.documents;
  short : AllByRecursion IsShortLine (take l.index l.map.documents);
}

abbrev pub decreases-lines : goal.decreases-lines
decreases-lines l = length l.map.documents - l.index
