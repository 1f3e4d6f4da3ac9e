use Rattle.std.proofs.{Common.{arith}, lemmas.List.{length-map}}
use Rattle.ppdb_values.specs.{Imports.{import_scope_of}, Value.{value_of}}
use Rattle.ppdb_verify.specs.Views.{raw_file}
use Rattle.ppdb_values_reading.proofs.Rows.{made_more, made_all}
use Rattle.ppdb_values_reading.proofs.value.imports.Goals as goal

pub rows-preserved : goal.rows-preserved
rows-preserved g c =
    record {
      from = omega arith;
      to = omega arith;
      made = made_more (value_of (raw_file c.args.file.now)).imports c.rows.imports c.push.new.self c.rows.row c.in_ok-import_scope_value.field-0
          c.in_ok-import_scope_value.ensures.scope c.rows.invariant.made c.in_ok-push.ensures.ok;
      cost = omega arith;
    }

pub returns-clause-imports : goal.returns-clause-imports
returns-clause-imports g c =
    let raw = raw_file c.args.file.now in
    let many = length-map raw.tables.imports (import_scope_of raw.tables) in
    made_all (value_of raw).imports c.rows.imports c.rows.row (omega (arith, many, c.facts.ensures.rules.shape.imports)) c.rows.invariant.made
