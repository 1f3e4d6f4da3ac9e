use Rattle.std.{proofs.Common.{◌≡◌, ◌-◌, take}, specs.List.{filter_map}}
use Rattle.ppdb_tables.specs.RawTables.{numbered}
use Rattle.ppdb_verify.specs.Views.{raw_file}
use Rattle.ppdb_merge_fits.{proofs.Rows.{given_by}, specs.Signatures.{given_signature}}
use Rattle.ppdb_merge_fits.proofs.signatures.given_signatures.Given as goal

abbrev pub invariant-rows : goal.invariant-rows
invariant-rows g l = l.all.items ≡ filter_map (given_by (raw_file l.file) (given_signature l.map)) (take l.row (numbered (raw_file l.file).tables.methods))

abbrev pub decreases-rows : goal.decreases-rows
decreases-rows g l = l.count - l.row
