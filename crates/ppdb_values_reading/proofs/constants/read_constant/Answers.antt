use Rattle.std.{proofs.Common.{◌∙◌, sym, ap}, specs.Prelude.{Some}, proofs.lemmas.List.{map-id}}
use Rattle.ppdb_values.specs.{declared.scope.ConstantValue.{ConstantValue}, Constants.{constant_of}}
use Rattle.ppdb_verify.specs.Views.{raw_file}
use Rattle.type_blobs.specs.ConstantReading.{body_answer}
use Rattle.ppdb_values_reading.proofs.{Rows.{row_made}, WholeConstants.{whole_constant, no_invalid_modifier, no_invalid_body, constant_read}}
use Rattle.ppdb_values_reading.proofs.constants.read_constant.Goals as goal

pub fill-requires : goal.fill-requires
fill-requires g c =
    let raw = (raw_file c.args.file.now).tables in
    no_invalid_modifier c.new-cursor.result.end
    (whole_constant raw c.constant-cells.result c.new-cursor.result
    (c.facts.ensures.rules.constants.each c.args.row c.constant-cells.result c.constant-cells.ensures.row)
    (rw c.type_limits.ensures at (rw c.blob.ensures.content at c.new-cursor.ensures)))

pub unreachable-requires : goal.unreachable-requires
unreachable-requires g c =
    let raw = (raw_file c.args.file.now).tables in
    no_invalid_body c.new-cursor.result.end c.body.result c.in-Err.field-0
    (whole_constant raw c.constant-cells.result c.new-cursor.result
    (c.facts.ensures.rules.constants.each c.args.row c.constant-cells.result c.constant-cells.ensures.row)
    (rw c.type_limits.ensures at (rw c.blob.ensures.content at c.new-cursor.ensures)))
    (c.body.ensures ∙ ap body_answer c.in_ok-fill.ensures.kept) c.in-Err.is

pub returns-clause-constant : goal.returns-clause-constant
returns-clause-constant g c =
    let raw = (raw_file c.args.file.now).tables in
    let modifiers = sym (map-id c.fill.new.into) ∙ c.in_ok-fill.ensures.items in
    let read = constant_read raw c.constant-cells.result c.new-cursor.result c.fill.new.into c.body.result c.in-Ok.body c.constants_are_read.ensures
    (c.facts.ensures.rules.constants.each c.args.row c.constant-cells.result c.constant-cells.ensures.row)
    (rw c.type_limits.ensures at (rw c.blob.ensures.content at c.new-cursor.ensures)) modifiers
    (c.body.ensures ∙ ap body_answer c.in_ok-fill.ensures.kept) c.in-Ok.is in
    rw c.text.ensures (row_made (constant_of raw) raw.constants c.args.row c.constant-cells.result c.constant-cells.ensures.row
    ∙ ap (λ (value : ConstantValue). Some value) read)
