use Rattle.std.proofs.Common.{◌≡◌, List, [], ◌∷◌, sym, ap, ◌∙◌}
use Rattle.ppdb_heaps.{specs.Names.{name_indexes}, specs.Views.{blobs_of}, proofs.Whole.{name_indexes-are}}
use Rattle.blob_grammar.specs.declared.places.PlacedIndex.{PlacedIndex}
use Rattle.ppdb_verify_total.{specs.HeapUses.{named_inside}, specs.Spans.{spanned}, proofs.Sums.{none-more}, proofs.Walked.{no_items, invalid_items, each_once}}
use Rattle.ppdb_verify_total.proofs.Walked.{walk-done, walk-next, walk-over}
use Rattle.ppdb_verify_total.proofs.inside.add_parts.Goals as goal

pub returns-in_default-clause-sum : goal.returns-in_default-clause-sum
returns-in_default-clause-sum c =
    let none : [] ≡ name_indexes (blobs_of c.args.blobs) c.args.content.now =
    (name_indexes-are (blobs_of c.args.blobs) c.args.content.now []).1 c.in_default.ensures.none in
    none-more c.args.total ∙ ap (λ (l : List PlacedIndex). spanned c.args.total (named_inside (blobs_of c.args.blobs) 0x30 c.args.row 0 l)) none

pub loop-next-init : goal.loop-next-init
loop-next-init c =
    let all : c.in-Ok.indexes.items ≡ name_indexes (blobs_of c.args.blobs) c.args.content.now =
    (name_indexes-are (blobs_of c.args.blobs) c.args.content.now c.in-Ok.indexes.items).1 c.in-Ok.ensures.indexes in
    record {
      rest = ap (λ (l : List PlacedIndex). spanned c.args.total (named_inside (blobs_of c.args.blobs) 0x30 c.args.row 0 l))
          (sym all ∙ sym (each_once c.in-Ok.indexes.items));
      within = c.requires.within;
    }

pub returns-in-Err-clause-sum : goal.returns-in-Err-clause-sum
returns-in-Err-clause-sum c =
    walk-over (λ x. x ∷ []) (blobs_of c.args.blobs) 0x30 c.args.row 0 c.args.total c.loop-next.sum (name_indexes (blobs_of c.args.blobs) c.args.content.now)
    c.loop-next.indexes c.loop-next.invariant.rest c.in-Some.at
    (rw c.in-Some.is at c.in-Ok-next.ensures.answer) c.in-Err.fault c.in-Err.ensures.sum

pub loop-next-preserved : goal.loop-next-preserved
loop-next-preserved c = record {
  rest = rw c.in-Ok-next.ensures.left (walk-next (λ x. x ∷ []) (blobs_of c.args.blobs) 0x30 c.args.row 0 c.args.total c.loop-next.sum
      (name_indexes (blobs_of c.args.blobs) c.args.content.now) c.loop-next.indexes c.loop-next.invariant.rest c.in-Some.at
      (rw c.in-Some.is at c.in-Ok-next.ensures.answer) c.in-Ok-add_index.after c.in-Ok-add_index.ensures.sum);
  within = c.in-Ok-add_index.ensures.within;
}

pub returns-in_default-next-2-clause-sum : goal.returns-in_default-next-2-clause-sum
returns-in_default-next-2-clause-sum c =
    walk-done (λ x. x ∷ []) (blobs_of c.args.blobs) 0x30 c.args.row 0 c.args.total c.loop-next.sum (name_indexes (blobs_of c.args.blobs) c.args.content.now)
    c.loop-next.indexes c.loop-next.invariant.rest
    (no_items c.loop-next.indexes.items c.loop-next.indexes.fault (rw c.in_default-next-2.is at c.in-Ok-next.ensures.answer))

pub returns-clause-sum : goal.returns-clause-sum
returns-clause-sum c =
    walk-done (λ x. x ∷ []) (blobs_of c.args.blobs) 0x30 c.args.row 0 c.args.total c.loop-next.sum (name_indexes (blobs_of c.args.blobs) c.args.content.now)
    c.loop-next.indexes c.loop-next.invariant.rest
    (invalid_items c.loop-next.indexes.items c.loop-next.indexes.fault c.in_default-next.field-0 c.in_default-next.ensures.answer)
