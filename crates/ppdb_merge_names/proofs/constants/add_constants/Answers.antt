use Rattle.std.{proofs.Common.{◌≡◌, sym, ap, refl, subst, ◌∙◌, List, All, Ok, Err, []}, proofs.lemmas.Result.{err_from_is_err_and}, specs.List.{flat_map}}
use Rattle.blob_grammar.specs.Reader.{tail}
use Rattle.ppdb_maps.specs.Map.{Map}
use Rattle.ppdb_tables.specs.RawTables.{numbered}
use Rattle.ppdb_verify.specs.Views.{raw_file}
use Rattle.ppdb_values_reading.{specs.declared.scopes.Scope.{Scope}, specs.Scopes.{HasLists}, proofs.Answered.{next_first, all_first, all_rest, next_none}}
use Rattle.ppdb_merge_names.{specs.References.{of_constant}, specs.Imaging.{imaged_on}, specs.Lists.{of_scope_constants}, proofs.Going.{leads-few, leads-end}}
use Rattle.ppdb_merge_names.proofs.{Going.{goes-stop, goes-as, map-stays}, ConstantLists.{all-scopes}}
use Rattle.ppdb_merge_names.proofs.constants.add_constants.Goals as goal

pub scopes-init : goal.scopes-init
scopes-init g c =
    let raw = raw_file c.args.file.now in
    let own = c.scopes_own_their_lists.ensures raw c.facts.ensures.rules in
    record {
      within = subst (λ (scopes : List Scope). All (HasLists raw.tables) scopes) (sym c.new-scopes.ensures.scopes) own.within;
      same_map = refl;
      leads = ap (imaged_on c.args.imager.now)
          (all-scopes c.args.imager.now.map raw.tables c.lists_are_owned.ensures c.facts.ensures.rules.constants.lists
          ∙ ap (λ (scopes : List Scope). flat_map (of_scope_constants c.args.imager.now.map raw.tables) scopes) (sym c.new-scopes.ensures.scopes));
    }

pub add_scope_constants-requires : goal.add_scope_constants-requires
add_scope_constants-requires g c =
    let raw = raw_file c.args.file.now in
    let first = next_first c.scopes.scopes c.in-Some.scope (sym c.next.ensures.answer ∙ c.in-Some.is) in
    all_first (HasLists raw.tables) c.scopes.scopes (tail c.scopes.scopes) c.in-Some.scope first c.scopes.invariant.within

pub scopes-preserved : goal.scopes-preserved
scopes-preserved g c =
    let raw = raw_file c.args.file.now in
    let start = c.args.imager.now in
    let now = c.scopes.imager in
    let first = next_first c.scopes.scopes c.in-Some.scope (sym c.next.ensures.answer ∙ c.in-Some.is) in
    let tell = of_scope_constants start.map raw.tables in
    let step : imaged_on now (tell c.in-Some.scope) ≡ Ok c.add_scope_constants.new.imager =
    ap (λ (m : Map). imaged_on now (of_scope_constants m raw.tables c.in-Some.scope)) (sym c.scopes.invariant.same_map) ∙ c.in_ok-add_scope_constants.ensures in
    rw c.next.ensures.left (record {
      within = all_rest (HasLists raw.tables) c.scopes.scopes (tail c.scopes.scopes) c.in-Some.scope first c.scopes.invariant.within;
      same_map = map-stays now c.add_scope_constants.new.imager (tell c.in-Some.scope) step ∙ c.scopes.invariant.same_map;
      leads = leads-few start now c.add_scope_constants.new.imager (flat_map (of_constant start.map raw.tables) (numbered raw.tables.constants))
          (tell c.in-Some.scope) (flat_map tell (tail c.scopes.scopes))
          (c.scopes.invariant.leads ∙ ap (λ (scopes : List Scope). imaged_on now (flat_map tell scopes)) first) step;
    })

pub returns-in_err-add_scope_constants : goal.returns-in_err-add_scope_constants
returns-in_err-add_scope_constants g c =
    let p = err_from_is_err_and c.from_residual.result c.from_residual.ensures.1 in
    let raw = raw_file c.args.file.now in
    let start = c.args.imager.now in
    let now = c.scopes.imager in
    let first = next_first c.scopes.scopes c.in-Some.scope (sym c.next.ensures.answer ∙ c.in-Some.is) in
    let tell = of_scope_constants start.map raw.tables in
    rw (p.1, p.2)
    (goes-stop start now c.add_scope_constants.new.imager c.add_scope_constants.new.imager
    (flat_map (of_constant start.map raw.tables) (numbered raw.tables.constants)) (tell c.in-Some.scope)
    (flat_map tell (tail c.scopes.scopes)) c.in_err-add_scope_constants.field-0.0
    (c.scopes.invariant.leads ∙ ap (λ (scopes : List Scope). imaged_on now (flat_map tell scopes)) first)
    (goes-as now c.add_scope_constants.new.imager (of_scope_constants now.map raw.tables c.in-Some.scope) (tell c.in-Some.scope)
    (Err c.in_err-add_scope_constants.field-0.0)
    (ap (λ (m : Map). of_scope_constants m raw.tables c.in-Some.scope) c.scopes.invariant.same_map) c.in_err-add_scope_constants.ensures))

pub returns : goal.returns
returns g c =
    let raw = raw_file c.args.file.now in
    let start = c.args.imager.now in
    let tell = of_scope_constants start.map raw.tables in
    let none : c.scopes.scopes ≡ [] = next_none c.scopes.scopes (sym c.next.ensures.answer ∙ c.in_default.is) in
    leads-end start c.scopes.imager (flat_map (of_constant start.map raw.tables) (numbered raw.tables.constants))
    (flat_map tell c.scopes.scopes) c.scopes.invariant.leads
    (ap (λ (scopes : List Scope). flat_map tell scopes) none)
