use Rattle.ppdb_verify_valid_laws.proofs.ValidFiles.{valid_id, valid_keeps, valid_narrow}
use Rattle.ppdb_verify_valid_laws.proofs.laws.valid_files_are_sound.Goals as goal

pub returns : goal.returns
returns c = λ file raw valid is.
    let rules = valid_keeps file raw valid.short valid.accepted is in
    record {
      rules = rules;
      sound = c.values_are_sound.ensures raw rules;
      types = c.values_have_types.ensures raw rules (valid_id file raw valid.accepted is) (valid_narrow file raw valid.bytes is);
    }
