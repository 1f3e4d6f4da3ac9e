use Rattle.std.proofs.Common.{sym, ◌∙◌}
use Rattle.ppdb_values.specs.Value.{value_of}
use Rattle.ppdb_verify.specs.Views.{raw_file}
use Rattle.ppdb_values_reading.specs.Lent.{custom_shown}
use Rattle.ppdb_merge_fits.proofs.CustomRows.{record_goes, record_there}
use Rattle.ppdb_merge_fits.proofs.records.first_of_record.Goals as goal
use Rattle.ppdb_tables.proofs.NumberedRows.{same_row}

pub returns-then-not-record_stays : goal.returns-then-not-record_stays
returns-then-not-record_stays g c = λ custom there.
    let same = same_row (value_of (raw_file c.args.file.now)).customs c.args.row (custom_shown c.read_custom-lent.result) custom
    c.read_custom-lent.ensures.custom there in
    sym (record_goes c.args.map.now (g.Q.AsksBody.tells_body c.args.question.now) (custom_shown c.read_custom-lent.result) custom same
    (sym c.record_stays.ensures ∙ c.if-not-record_stays.true))

pub returns : goal.returns
returns g c = λ custom there.
    let same = same_row (value_of (raw_file c.args.file.now)).customs c.args.row (custom_shown c.read_custom-lent.result) custom
    c.read_custom-lent.ensures.custom there in
    c.ask_body.ensures
    ∙ record_there c.args.map.now (g.Q.AsksBody.tells_body c.args.question.now) (custom_shown c.read_custom-lent.result) custom same
    (sym c.record_stays.ensures ∙ c.if-not-record_stays.false)
