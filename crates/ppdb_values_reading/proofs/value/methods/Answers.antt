use Rattle.std.proofs.Common.{◌≤◌, length, arith, ◌∙◌}
use Rattle.ppdb_values.specs.Documents.{method_of}
use Rattle.ppdb_verify.specs.Views.{raw_file}
use Rattle.ppdb_values_reading.proofs.{Given.{method_more, method_none}, Rows.{given_all}}
use Rattle.ppdb_values_reading.proofs.value.methods.Goals as goal
use Rattle.ppdb_values_reading.proofs.value.methods.Goals.{in-Some+in_ok-push, in_default}

pub rows-preserved : goal.rows-preserved
rows-preserved g c =
    let raw = raw_file c.args.file.now in
    let high : c.rows.row ≤ length raw.tables.methods = omega (arith, c.facts.ensures.rules.shape.methods) in
    record {
      from = omega arith;
      to = omega arith;
      made = elim c.match-branch-2.branch [
        | in-Some+in_ok-push w ↦ method_more raw c.rows.row c.values_are_rows.ensures c.rows.invariant.from high c.rows.methods c.match-branch-2.methods
            w.in-Some.method
            (c.in_ok-method.ensures.method ∙ w.in-Some.is) c.rows.invariant.made (w.methods-is ∙ w.in_ok-push.ensures.ok)
        | in_default w ↦ method_none raw c.rows.row c.values_are_rows.ensures c.rows.invariant.from high c.rows.methods c.match-branch-2.methods
            (c.in_ok-method.ensures.method ∙ w.in_default.is) c.rows.invariant.made w.methods-is
      ];
      cost = omega arith;
    }

pub returns-clause-methods : goal.returns-clause-methods
returns-clause-methods g c =
    let raw = raw_file c.args.file.now in
    c.fitted.ensures ∙ given_all (method_of raw.tables) raw.tables.methods c.rows.methods c.rows.row (omega (arith, c.facts.ensures.rules.shape.methods))
    c.rows.invariant.made
