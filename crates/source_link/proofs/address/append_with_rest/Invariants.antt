use Rattle.std.proofs.Common.{◌≡◌, ◌++◌, ℕ, List, length}
use Rattle.source_link.specs.Address.{turned, with_rest}
use Rattle.source_link.proofs.address.append_with_rest.Given as goal

abbrev pub invariant-stars : goal.invariant-stars
invariant-stars l = record {
  more : (more : List ℕ) × (l.into ≡ l.fn.into ++ more);
  same : l.into ++ with_rest (turned l.rest) l.left ≡ l.fn.into ++ with_rest (turned l.rest) l.address;
}

abbrev pub decreases-stars : goal.decreases-stars
decreases-stars l = length l.left
