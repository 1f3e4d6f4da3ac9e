use Rattle.std.proofs.Common.{Some, List, inr, subst, sym, Result}
use Rattle.ppdb_base.specs.declared.link_error.LinkError.{LinkError}
use Rattle.serde_json.specs.View.{view}
use Rattle.source_link.{specs.declared.pair.Pair.{Pair}, specs.Record.{IsRefusedBy, pairs_of}, proofs.Objects.{not_text, text_said, ok_said}}
use Rattle.source_link.proofs.record.pairs_said_by.Goals as goal

pub returns-in_default-clause-refused : goal.returns-in_default-clause-refused
returns-in_default-clause-refused c = inr (not_text c.args.bytes.now c.in_default.ensures.cases.0)

pub returns-in-Ok-from_str-clause-pairs : goal.returns-in-Ok-from_str-clause-pairs
returns-in-Ok-from_str-clause-pairs c =
    let text = c.in-Ok.ensures.cases in
    ok_said c.pairs_of.result (pairs_of (view c.in-Ok-from_str.value)) _
    (text_said c.args.bytes.now c.in-Ok.text.now (Some (view c.in-Ok-from_str.value)) text.0 text.1 c.in-Ok-from_str.ensures.ok) c.pairs_of.ensures.pairs

pub returns-in-Ok-from_str-clause-refused : goal.returns-in-Ok-from_str-clause-refused
returns-in-Ok-from_str-clause-refused c =
    let text = c.in-Ok.ensures.cases in
    subst (λ (said : Result (List Pair) LinkError). IsRefusedBy c.pairs_of.result said)
    (sym (text_said c.args.bytes.now c.in-Ok.text.now (Some (view c.in-Ok-from_str.value)) text.0 text.1 c.in-Ok-from_str.ensures.ok))
    c.pairs_of.ensures.refused
