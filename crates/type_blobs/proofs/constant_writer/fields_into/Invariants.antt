use Rattle.std.{proofs.Common.{◌≡◌, ◌++◌, take}, specs.List.{flat_map}}
use Rattle.type_blobs.specs.Spelling.{modifier_spelling}
use Rattle.type_blobs.proofs.constant_writer.fields_into.Given as goal

abbrev pub invariant-loop-modifier : goal.invariant-loop-modifier
invariant-loop-modifier l = l.into ≡ l.fn.into ++ flat_map modifier_spelling (take l.modifier-index l.modifiers)
