use Rattle.std.proofs.Common.{refl}
use Rattle.ppdb_maps.proofs.{Finishing.{made_holds}, Readable.{read_readable}}
use Rattle.ppdb_maps.proofs.draft.Draft.finish.Goals as goal

pub new-requires : goal.new-requires
new-requires c = read_readable c.requires.0 c.requires.1 c.requires.2 _ c.requires.3 (made_holds c.requires.2 c.args.self _ c.requires.4 (record {
  counts = c.in_ok-counts.ensures.items;
  rows = c.in_ok-rows.ensures.moved;
  crossed = c.in_ok-crossed.ensures.moved;
  gone = c.in_ok-gone.ensures.moved;
  methods = c.in_ok-methods.ensures.moved;
  drops = c.in_ok-drops.ensures.items;
  slotted = c.in_ok-slotted.ensures.items;
  slots = c.in_ok-slots.ensures.items;
  signatures = c.in_ok-signatures.ensures.moved;
  documents = c.in_ok-documents.ensures.items;
  link = refl;
  shares = refl;
  counts_ordered = c.in_ok-counts.ensures.ordered;
  rows_ordered = c.in_ok-rows.ensures.sorted;
  crossed_ordered = c.in_ok-crossed.ensures.sorted;
  gone_ordered = c.in_ok-gone.ensures.sorted;
  methods_ordered = c.in_ok-methods.ensures.sorted;
  drops_ordered = c.in_ok-drops.ensures.ordered;
  slotted_ordered = c.in_ok-slotted.ensures.ordered;
  slots_ordered = c.in_ok-slots.ensures.ordered;
  signatures_ordered = c.in_ok-signatures.ensures.sorted;
  documents_ordered = c.in_ok-documents.ensures.ordered;
}))

pub returns : goal.returns
returns c = λ before closed. rw c.new.ensures (made_holds before c.args.self _ closed (record {
  counts = c.in_ok-counts.ensures.items;
  rows = c.in_ok-rows.ensures.moved;
  crossed = c.in_ok-crossed.ensures.moved;
  gone = c.in_ok-gone.ensures.moved;
  methods = c.in_ok-methods.ensures.moved;
  drops = c.in_ok-drops.ensures.items;
  slotted = c.in_ok-slotted.ensures.items;
  slots = c.in_ok-slots.ensures.items;
  signatures = c.in_ok-signatures.ensures.moved;
  documents = c.in_ok-documents.ensures.items;
  link = refl;
  shares = refl;
  counts_ordered = c.in_ok-counts.ensures.ordered;
  rows_ordered = c.in_ok-rows.ensures.sorted;
  crossed_ordered = c.in_ok-crossed.ensures.sorted;
  gone_ordered = c.in_ok-gone.ensures.sorted;
  methods_ordered = c.in_ok-methods.ensures.sorted;
  drops_ordered = c.in_ok-drops.ensures.ordered;
  slotted_ordered = c.in_ok-slotted.ensures.ordered;
  slots_ordered = c.in_ok-slots.ensures.ordered;
  signatures_ordered = c.in_ok-signatures.ensures.sorted;
  documents_ordered = c.in_ok-documents.ensures.ordered;
}))
