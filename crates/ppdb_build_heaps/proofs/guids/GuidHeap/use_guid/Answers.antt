use Rattle.std.{proofs.Common.{◌≡◌, ◌+◌, false, cond, min, length, bytes_eq, Some, None, ap, sym, subst, ◌∙◌, arith}, specs.List.{list_any}, specs.BTreeMap.{get}}
use Rattle.std.specs.{BTreeMap.{is_at}, BTreeMap.Entry.{map_with_value, entry_map_ref}, Cmp.Lexicographic.{slice_cmp}, Ordering.{nat_cmp}}
use Rattle.ppdb_build_heaps.{specs.Guids.{number_of}, proofs.GuidSets.{no_number, number_more, number_new}}
use Rattle.ppdb_build_heaps.proofs.guids.GuidHeap.use_guid.Goals as goal

new : (c : goal.After-self-in-Vacant-2-1) → list_any (bytes_eq c.args.guid.now) c.self.inside.guids.items ≡ false
new c =
    let none : get (slice_cmp nat_cmp) c.self.inside.numbers c.args.guid.now ≡ None = grind (arith, c.in_ok-entry.ensures.value, c.in-Vacant.is) in
    no_number c.self.inside.guids.items c.args.guid.now (sym (c.self.invariant c.args.guid.now) ∙ none)

next : (c : goal.After-self-in-Vacant-2-1) → c.min-next.result ≡ min (1 + length c.self.inside.guids.items) 0xffffffff
next c = omega (arith, c.min-next.ensures, c.saturating_add.ensures, c.len.ensures)

pub invariant_of-self-in-Vacant : goal.invariant_of-self-in-Vacant
invariant_of-self-in-Vacant c = λ guid.
    let number = c.insert.result.now in
    let now =
    (c.in_ok-entry.ensures.update.0 number).0 guid
    ∙ ap (cond (is_at (slice_cmp nat_cmp c.args.guid.now) guid) (Some number)) (c.self.invariant guid)
    ∙ number_more c.self.inside.guids.items c.args.guid.now guid number (new c) (c.insert.ensures.value ∙ next c)
    ∙ sym (ap (number_of guid) c.in_ok-push-in-Vacant.ensures.items) in
    let there = subst (λ e. get (slice_cmp nat_cmp) (map_with_value e number) guid ≡ number_of guid c.push.new.self.items) c.in-Vacant.is now in
    let same = sym c.in_ok-entry.ensures.same_map ∙ ap (λ e. (entry_map_ref e).ghost_name) c.in-Vacant.is in
    grind (arith, there, same)

pub returns-in_ok-push-in-Vacant-clause-number : goal.returns-in_ok-push-in-Vacant-clause-number
returns-in_ok-push-in-Vacant-clause-number c =
    let at = number_new c.self.inside.guids.items c.args.guid.now (new c) in
    grind (arith, next c, at, c.self.view_is)
