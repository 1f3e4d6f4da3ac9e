use Rattle.std.proofs.Common.{arith, sym, ◌∙◌, length, ◌<◌}
use Rattle.map_compose.{specs.Parts.{part_numbers, other_numbers}, proofs.Putting.{within}, proofs.Merging.{left_none, left_own, left_other, left_less, left_more}}
use Rattle.map_compose.proofs.Merging.{left_same, part_up, others_up, few_own, few_others}
use Rattle.map_compose.proofs.part.Part.next.Goals as goal

pub overflow_add-passed : goal.overflow_add-passed
overflow_add-passed c =
    let inside : c.args.passed.now.other < length (other_numbers c.args.self c.args.first.now c.args.second.now) =
    within (other_numbers c.args.self c.args.first.now c.args.second.now) c.args.passed.now.other _ (sym c.other-other.ensures ∙ c.in-None-Some.is-1) in
    let most = few_others c.args.self c.args.first.now c.args.second.now c.facts.ensures c.facts-2.ensures in
    omega (arith, most)

pub overflow_add-passed-in-Some-None : goal.overflow_add-passed-in-Some-None
overflow_add-passed-in-Some-None c =
    let inside : c.args.passed.now.own < length (part_numbers c.args.self c.args.first.now) =
    within (part_numbers c.args.self c.args.first.now) c.args.passed.now.own _ (sym c.number-own.ensures ∙ c.in-Some-None.is-0) in
    let most = few_own c.args.self c.args.first.now c.facts.ensures in
    omega (arith, most)

pub overflow_add-passed-in-Some-Some : goal.overflow_add-passed-in-Some-Some
overflow_add-passed-in-Some-Some c =
    let inside : c.args.passed.now.own < length (part_numbers c.args.self c.args.first.now) =
    within (part_numbers c.args.self c.args.first.now) c.args.passed.now.own _ (sym c.number-own.ensures ∙ c.in-Some-Some.is-0) in
    let most = few_own c.args.self c.args.first.now c.facts.ensures in
    omega (arith, most)

pub overflow_add-passed-in-Some-Some-2 : goal.overflow_add-passed-in-Some-Some-2
overflow_add-passed-in-Some-Some-2 c =
    let inside : c.args.passed.now.own < length (part_numbers c.args.self c.args.first.now) =
    within (part_numbers c.args.self c.args.first.now) c.args.passed.now.own _ (sym c.number-own.ensures ∙ c.in-Some-Some.is-0) in
    let most = few_own c.args.self c.args.first.now c.facts.ensures in
    omega (arith, most)

pub overflow_add-passed-in-Some-Some-2-2 : goal.overflow_add-passed-in-Some-Some-2-2
overflow_add-passed-in-Some-Some-2-2 c =
    let inside : c.args.passed.now.other < length (other_numbers c.args.self c.args.first.now c.args.second.now) =
    within (other_numbers c.args.self c.args.first.now c.args.second.now) c.args.passed.now.other _ (sym c.other-other.ensures ∙ c.in-Some-Some.is-1) in
    let most = few_others c.args.self c.args.first.now c.args.second.now c.facts.ensures c.facts-2.ensures in
    omega (arith, most)

pub overflow_add-passed-in-Some-Some-3 : goal.overflow_add-passed-in-Some-Some-3
overflow_add-passed-in-Some-Some-3 c =
    let inside : c.args.passed.now.other < length (other_numbers c.args.self c.args.first.now c.args.second.now) =
    within (other_numbers c.args.self c.args.first.now c.args.second.now) c.args.passed.now.other _ (sym c.other-other.ensures ∙ c.in-Some-Some.is-1) in
    let most = few_others c.args.self c.args.first.now c.args.second.now c.facts.ensures c.facts-2.ensures in
    omega (arith, most)

pub returns-in-None-None : goal.returns-in-None-None
returns-in-None-None c = left_none (part_numbers c.args.self c.args.first.now) (other_numbers c.args.self c.args.first.now c.args.second.now)
    (part_up c.args.self c.args.first.now c.facts.ensures)
    (others_up c.args.self c.args.first.now c.args.second.now c.facts.ensures c.facts-2.ensures) c.args.passed.now.own c.args.passed.now.other
    (sym c.number-own.ensures ∙ c.in-None-None.is-0) (sym c.other-other.ensures ∙ c.in-None-None.is-1)

pub returns-in-None-Some : goal.returns-in-None-Some
returns-in-None-Some c = left_other (part_numbers c.args.self c.args.first.now) (other_numbers c.args.self c.args.first.now c.args.second.now)
    (part_up c.args.self c.args.first.now c.facts.ensures)
    (others_up c.args.self c.args.first.now c.args.second.now c.facts.ensures c.facts-2.ensures) c.args.passed.now.own c.args.passed.now.other
    c.in-None-Some.other (sym c.number-own.ensures ∙ c.in-None-Some.is-0) (sym c.other-other.ensures ∙ c.in-None-Some.is-1)

pub returns-in-Some-None : goal.returns-in-Some-None
returns-in-Some-None c = left_own (part_numbers c.args.self c.args.first.now) (other_numbers c.args.self c.args.first.now c.args.second.now)
    (part_up c.args.self c.args.first.now c.facts.ensures)
    (others_up c.args.self c.args.first.now c.args.second.now c.facts.ensures c.facts-2.ensures) c.args.passed.now.own c.args.passed.now.other
    c.in-Some-None.own (sym c.number-own.ensures ∙ c.in-Some-None.is-0) (sym c.other-other.ensures ∙ c.in-Some-None.is-1)

pub returns-in-Some-Some : goal.returns-in-Some-Some
returns-in-Some-Some c = left_less (part_numbers c.args.self c.args.first.now) (other_numbers c.args.self c.args.first.now c.args.second.now)
    (part_up c.args.self c.args.first.now c.facts.ensures)
    (others_up c.args.self c.args.first.now c.args.second.now c.facts.ensures c.facts-2.ensures) c.args.passed.now.own c.args.passed.now.other
    c.in-Some-Some.own c.in-Some-Some.other (sym c.number-own.ensures ∙ c.in-Some-Some.is-0)
    (sym c.other-other.ensures ∙ c.in-Some-Some.is-1) c.if-own-other.true

pub returns-in-Some-Some-2 : goal.returns-in-Some-Some-2
returns-in-Some-Some-2 c = left_same (part_numbers c.args.self c.args.first.now) (other_numbers c.args.self c.args.first.now c.args.second.now)
    (part_up c.args.self c.args.first.now c.facts.ensures)
    (others_up c.args.self c.args.first.now c.args.second.now c.facts.ensures c.facts-2.ensures) c.args.passed.now.own c.args.passed.now.other
    c.in-Some-Some.own c.in-Some-Some.other (sym c.number-own.ensures ∙ c.in-Some-Some.is-0)
    (sym c.other-other.ensures ∙ c.in-Some-Some.is-1) c.if-own-other-2.true

pub returns-in-Some-Some-3 : goal.returns-in-Some-Some-3
returns-in-Some-Some-3 c = left_more (part_numbers c.args.self c.args.first.now) (other_numbers c.args.self c.args.first.now c.args.second.now)
    (part_up c.args.self c.args.first.now c.facts.ensures)
    (others_up c.args.self c.args.first.now c.args.second.now c.facts.ensures c.facts-2.ensures) c.args.passed.now.own c.args.passed.now.other
    c.in-Some-Some.own c.in-Some-Some.other (sym c.number-own.ensures ∙ c.in-Some-Some.is-0) (sym c.other-other.ensures ∙ c.in-Some-Some.is-1)
    (let apart = c.if-own-other-2.false in omega (arith, apart))
