use Rattle.ppdb_run.proofs.Keeping.{written_of}
use Rattle.ppdb_run.proofs.meaning_laws.inputs_are_written.Goals as goal

pub returns : goal.returns
returns c =
    written_of c.values_are_sound.ensures c.soundness_is_annotated.ensures c.references_are_named.ensures c.nothing_clashes.ensures c.joined_is_sound.ensures
    c.written_files_are_valid.ensures c.written_files_are_canonical.ensures c.joined_kinds_are_known.ensures c.joined_files_keep_inputs.ensures
