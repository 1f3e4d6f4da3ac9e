use Rattle.ppdb_cli_files.proofs.Runs.{in_place_between}
use Rattle.ppdb_cli_files.proofs.replace.put_file.Goals as goal

pub returns-in-Err-NotMade : goal.returns-in-Err-NotMade
returns-in-Err-NotMade g c =
    in_place_between _ _ _ c.args.bytes.now _ _ _ _ _ c.in-Err-NotMade.is c.in-Err-NotMade.field-0-is c.replace_file.ensures
    c.overwrite-in-Err-NotMade.ensures
