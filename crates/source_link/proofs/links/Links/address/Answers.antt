use Rattle.std.proofs.Common.{◌≡◌, ◌++◌, ◌∙◌, List, Some, None, ap, refl, subst}
use Rattle.source_link.{specs.declared.pair.Pair.{Pair}, specs.Address.{address_of, filled}, specs.Laws.{IsBest}, proofs.Free.{address_found, address_none}}
use Rattle.source_link.proofs.links.Links.address.Goals as goal

pub returns-in_default-clause-found : goal.returns-in_default-clause-found
returns-in_default-clause-found c address is =
    let none : address_of c.args.name.now c.args.self.now ≡ None =
    subst (λ (ps : List Pair). address_of c.args.name.now ps ≡ None) (c.as_slice.ensures.value ∙ c.self.view_is)
    (address_none c.args.name.now c.as_slice.result.now c.in_default.ensures) in
    absurd (cc)

pub returns-in_err-append_filled-clause-none : goal.returns-in_err-append_filled-clause-none
returns-in_err-append_filled-clause-none c is =
    let found : address_of c.args.name.now c.args.self.now ≡ Some (filled c.args.name.now c.in-Some.pair.now) =
    subst (λ (ps : List Pair). address_of c.args.name.now ps ≡ Some (filled c.args.name.now c.in-Some.pair.now)) c.self.view_is
    (address_found c.args.name.now c.self.inside.pairs.items c.in-Some.pair.now c.self.invariant.1
    (subst (λ (ps : List Pair). IsBest c.args.name.now ps c.in-Some.pair.now) c.as_slice.ensures.value c.in-Some.ensures)) in
    absurd (cc)

pub returns-clause-found : goal.returns-clause-found
returns-clause-found c address is =
    let found : address_of c.args.name.now c.args.self.now ≡ Some (filled c.args.name.now c.in-Some.pair.now) =
    subst (λ (ps : List Pair). address_of c.args.name.now ps ≡ Some (filled c.args.name.now c.in-Some.pair.now)) c.self.view_is
    (address_found c.args.name.now c.self.inside.pairs.items c.in-Some.pair.now c.self.invariant.1
    (subst (λ (ps : List Pair). IsBest c.args.name.now ps c.in-Some.pair.now) c.as_slice.ensures.value c.in-Some.ensures)) in
    let same : filled c.args.name.now c.in-Some.pair.now ≡ address = cc in
    (refl, c.in_ok-append_filled.ensures.ok ∙ ap (λ a. c.args.into.now ++ a) same)

pub returns-clause-none : goal.returns-clause-none
returns-clause-none c is =
    let found : address_of c.args.name.now c.args.self.now ≡ Some (filled c.args.name.now c.in-Some.pair.now) =
    subst (λ (ps : List Pair). address_of c.args.name.now ps ≡ Some (filled c.args.name.now c.in-Some.pair.now)) c.self.view_is
    (address_found c.args.name.now c.self.inside.pairs.items c.in-Some.pair.now c.self.invariant.1
    (subst (λ (ps : List Pair). IsBest c.args.name.now ps c.in-Some.pair.now) c.as_slice.ensures.value c.in-Some.ensures)) in
    absurd (cc)
