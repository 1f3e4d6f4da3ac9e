use Rattle.ppdb_build.proofs.Writable.{parts_writable}
use Rattle.ppdb_build.proofs.write.parts_are_writable.Goals as goal

pub returns : goal.returns
returns c = parts_writable c.sound_parts_can_be_written.ensures c.args.value.now c.requires.sound c.requires.types c.requires.early
