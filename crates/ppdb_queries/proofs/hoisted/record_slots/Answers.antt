use Rattle.std.proofs.Common.{◌≡◌, ap, ◌∙◌, arith, List}
use Rattle.blob_grammar.specs.Reader.{Left}
use Rattle.custom_info.specs.declared.slots.Slot.{Slot}
use Rattle.ppdb_tables.specs.{RawOf.{raw_of}, declared.rows.CustomRow.{CustomRow}}
use Rattle.ppdb_verify.specs.Views.{tables_of}
use Rattle.ppdb_queries.specs.Hoisted.{slots_from, slots_of}
use Rattle.ppdb_queries.proofs.hoisted.record_slots.Goals as goal

pub invariant_of-result : goal.invariant_of-result
invariant_of-result g c = let few = c.slots_at.ensures.few in (ap (λ (left : Left Slot). left.fault) c.slots_at.ensures.slots, omega (arith, few))

pub returns-clause-slots : goal.returns-clause-slots
returns-clause-slots g c cells there =
    let raw = raw_of (tables_of c.args.file.now) in
    let same : c.custom-cells.result ≡ cells = let a = c.custom-cells.ensures.row in cc (a, there) in
    ap (λ (slots : List Slot). slots_from c.args.offset c.args.row 0 slots)
    (ap (λ (left : Left Slot). left.items) c.slots_at.ensures.slots ∙ ap (λ (row : CustomRow). slots_of raw row) same)
