use Rattle.std.{proofs.Common.{◌≡◌, ◌++◌, take, map}, specs.List.{flat_map}}
use Rattle.cli_ints.specs.Shortest.{short_unsigned}
use Rattle.type_blobs.specs.Spelling.{part_number}
use Rattle.type_blobs.proofs.import_writer.parts_into.Given as goal

abbrev pub invariant-loop-part : goal.invariant-loop-part
invariant-loop-part l = l.into ≡ l.fn.into ++ flat_map short_unsigned (map (part_number l.numbers) (take l.part-index l.parts))
