use Rattle.std.proofs.{Common.{arith, sym, length, ◌<◌}, lemmas.List.{length-map}}
use Rattle.ppdb_maps.specs.Map.{MethodLine}
use Rattle.map_compose.{specs.declared.part.Part.TheVariants.{Methods}, proofs.Differing.{line_inside, none_next, none_all, first_is}, proofs.Merging.{few_own}}
use Rattle.map_compose.proofs.sizes.first_differing.Goals as goal

pub methods-init : goal.methods-init
methods-init c = record { within = omega arith; none = λ j l below. absurd (omega (arith, below)) }

pub overflow_add-index : goal.overflow_add-index
overflow_add-index c =
    let inside : c.methods.index < length c.args.first.now.methods =
    line_inside c.args.first.now.methods c.methods.index c.in-Some.method (sym c.in-Some.ensures) in
    let most = few_own Methods c.args.first.now c.facts.ensures in
    let same = length-map c.args.first.now.methods (λ (l : MethodLine). l.method) in
    omega (arith, most, same)

pub methods-smaller : goal.methods-smaller
methods-smaller c =
    let inside : c.methods.index < length c.args.first.now.methods =
    line_inside c.args.first.now.methods c.methods.index c.in-Some.method (sym c.in-Some.ensures) in
    omega arith

pub methods-preserved : goal.methods-preserved
methods-preserved c =
    let inside : c.methods.index < length c.args.first.now.methods =
    line_inside c.args.first.now.methods c.methods.index c.in-Some.method (sym c.in-Some.ensures) in
    record {
      within = omega arith;
      none = none_next c.args.first.now c.args.second.now c.methods.index c.in-Some.method
          (sym c.in-Some.ensures) c.in_default-difference.ensures c.methods.invariant.none;
    }

pub returns-in-Some-difference : goal.returns-in-Some-difference
returns-in-Some-difference c = first_is c.args.first.now c.args.second.now c.methods.index c.in-Some.method _ _ c.facts.ensures (sym c.in-Some.ensures)
    c.in-Some-difference.ensures c.methods.invariant.none

pub returns : goal.returns
returns c = none_all c.args.first.now c.args.second.now c.methods.index (sym c.in_default.ensures) c.methods.invariant.none
