use Rattle.std.proofs.Common.{inl, refl}
use Rattle.ppdb_tables.specs.{RawOf.{raw_of}, declared.rows.VariableRow.{VariableRow}}
use Rattle.ppdb_verify_rules.proofs.{ListOwners.{lists_of_variables, slots_at_first, texts_at_first}, VariableFaults.{first_row}}
use Rattle.ppdb_verify_rules.proofs.variables.judge_variables.Goals as goal

pub loop-row-init : goal.loop-row-init
loop-row-init g c = record {
  judged = first_row (raw_of c.args.tables.now) c.requires.judged;
  before = inl (refl, refl);
  slots = slots_at_first (raw_of c.args.tables.now).scopes (raw_of c.args.tables.now).variables 0 c.new-slots.result.items c.new-slots.ensures.items;
  names = texts_at_first (λ s. s.variables) (raw_of c.args.tables.now).scopes (raw_of c.args.tables.now).texts (λ (v : VariableRow). v.name)
      (raw_of c.args.tables.now).variables 0 c.new-names.result c.new-names.ensures;
}

pub judge_variable-requires-clause-lists : goal.judge_variable-requires-clause-lists
judge_variable-requires-clause-lists g c = lists_of_variables (raw_of c.args.tables.now) c.requires.judged

pub loop-row-preserved : goal.loop-row-preserved
loop-row-preserved g c = record {
  judged = c.in_ok-owner.ensures.ok;
  before = c.in_ok-owner.ensures.owner;
  slots = c.in_ok-owner.ensures.slots;
  names = c.in_ok-owner.ensures.names;
}
