use Rattle.std.proofs.Common.{◌≡◌, ◌++◌, take}
use Rattle.source_link.specs.Address.{turned}
use Rattle.source_link.proofs.address.append_turned.Given as goal

abbrev pub invariant-loop-byte : goal.invariant-loop-byte
invariant-loop-byte l = l.into ≡ l.fn.into ++ turned (take l.byte-index l.rest)
