use Rattle.std.{proofs.Common.{◌≡◌, ◌++◌, sym, ap, ◌∙◌}, specs.Prelude.{slice_get}, proofs.lemmas.List.{append_assoc}}
use Rattle.ppdb_merge.{specs.Refusals.{documents_differ, links_differ, methods_taken}, proofs.Told.{first_told, second_told}}
use Rattle.ppdb_merge.proofs.index.clash_before.Goals as goal

pub returns-then-is_some : goal.returns-then-is_some
returns-then-is_some c =
    let methods = methods_taken c.args.traces.now c.args.rows.now in
    let documents = documents_differ c.args.traces.now c.args.map.now c.args.value.now.documents in
    let links = links_differ c.args.traces.now c.args.map.now c.args.value.now.customs in
    let told : c.clash-told.result ≡ slice_get (methods ++ documents) 0 =
    c.clash-told.ensures c.args.traces.now c.requires.indexes
    ∙ ap (λ l. slice_get (methods ++ documents_differ c.args.traces.now c.args.map.now l) 0) c.as_slice.ensures in
    first_told c.clash-told.result (methods ++ documents) links told (sym c.is_some.ensures ∙ c.if-is_some.true)
    ∙ ap (λ l. slice_get l 0) (append_assoc methods documents links)

pub returns : goal.returns
returns c =
    let methods = methods_taken c.args.traces.now c.args.rows.now in
    let documents = documents_differ c.args.traces.now c.args.map.now c.args.value.now.documents in
    let links = links_differ c.args.traces.now c.args.map.now c.args.value.now.customs in
    let told : c.clash-told.result ≡ slice_get (methods ++ documents) 0 =
    c.clash-told.ensures c.args.traces.now c.requires.indexes
    ∙ ap (λ l. slice_get (methods ++ documents_differ c.args.traces.now c.args.map.now l) 0) c.as_slice.ensures in
    c.first_link_differing.ensures
    ∙ ap (λ l. slice_get (links_differ c.args.traces.now c.args.map.now l) 0) c.as_slice-2.ensures
    ∙ sym (ap (λ l. slice_get l 0) (sym (append_assoc methods documents links))
    ∙ second_told c.clash-told.result (methods ++ documents) links told (sym c.is_some.ensures ∙ c.if-is_some.false))
