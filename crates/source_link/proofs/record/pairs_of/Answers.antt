use Rattle.std.{proofs.Common.{◌≡◌, ◌∙◌, Some, Option, List, ap, inr, subst, sym}, specs.Prelude.{IfOk, ok_or}, specs.Option.{option_map}}
use Rattle.serde_json.specs.View.{view, members_view}
use Rattle.ppdb_base.specs.declared.link_error.LinkError.TheVariants.{Shape}
use Rattle.source_link.{specs.declared.pair.Pair.{Pair}, specs.Record.{IsRefusedBy, documents_in, pairs_in, pairs_of}, proofs.Objects.{documents_said}}
use Rattle.source_link.proofs.Objects.{documents_object, documents_none}
use Rattle.source_link.proofs.record.pairs_of.Goals as goal

pub returns-in_default-remove-clause-pairs : goal.returns-in_default-remove-clause-pairs
returns-in_default-remove-clause-pairs c =
    documents_said c.args.value c.in-Some.members c.remove.result c.in-Some.ensures c.remove.ensures.value
    ∙ ap (λ o. documents_in (option_map view o)) c.in_default-remove.is ∙ ap Some (sym c.new.ensures)

pub returns-in_default-members_of-clause-refused : goal.returns-in_default-members_of-clause-refused
returns-in_default-members_of-clause-refused c =
    inr (ap (λ (o : Option (List Pair)). ok_or o Shape) (documents_said c.args.value c.in-Some.members c.remove.result c.in-Some.ensures c.remove.ensures.value
    ∙ ap (λ o. documents_in (option_map view o)) c.in-Some-remove.is ∙ documents_none c.in-Some-remove.documents c.in_default-members_of.ensures))

pub returns-clause-pairs : goal.returns-clause-pairs
returns-clause-pairs c =
    let said : pairs_of (view c.args.value) ≡ pairs_in (members_view c.in-Some-members_of.documents.entries) =
    documents_said c.args.value c.in-Some.members c.remove.result c.in-Some.ensures c.remove.ensures.value
    ∙ ap (λ o. documents_in (option_map view o)) c.in-Some-remove.is
    ∙ documents_object c.in-Some-remove.documents c.in-Some-members_of.documents c.in-Some-members_of.ensures in
    subst (λ (o : Option (List Pair)). IfOk c.pairs_in.result (λ pairs. o ≡ Some pairs)) (sym said) c.pairs_in.ensures.pairs

pub returns-clause-refused : goal.returns-clause-refused
returns-clause-refused c =
    let said : pairs_of (view c.args.value) ≡ pairs_in (members_view c.in-Some-members_of.documents.entries) =
    documents_said c.args.value c.in-Some.members c.remove.result c.in-Some.ensures c.remove.ensures.value
    ∙ ap (λ o. documents_in (option_map view o)) c.in-Some-remove.is
    ∙ documents_object c.in-Some-remove.documents c.in-Some-members_of.documents c.in-Some-members_of.ensures in
    subst (λ (o : Option (List Pair)). IsRefusedBy c.pairs_in.result (ok_or o Shape)) (sym said) c.pairs_in.ensures.refused
