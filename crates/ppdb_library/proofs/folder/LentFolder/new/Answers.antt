use Rattle.std.proofs.Common.{length}
use Rattle.ppdb_library.proofs.Pieces.{all_within}
use Rattle.ppdb_library.proofs.folder.LentFolder.new.Goals as goal

pub invariant_of-result : goal.invariant_of-result
invariant_of-result c = all_within (length c.args.files.now) c.args.pieces.now c.requires
