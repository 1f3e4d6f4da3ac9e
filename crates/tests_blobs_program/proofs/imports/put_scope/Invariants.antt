use Rattle.std.proofs.Common.{length}
use Rattle.tests_blobs_program.proofs.imports.put_scope.Given as goal

abbrev pub decreases-imports : goal.decreases-imports
decreases-imports g l = length l.cursor.items
