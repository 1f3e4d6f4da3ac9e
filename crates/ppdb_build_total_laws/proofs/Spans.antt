-- References that are few enough in all leave none that passes the limit.
use Rattle.std.proofs.{Common.{◌≡◌, ◌≤◌, arith, sum_by}, lemmas.List.Sums.{sum_by_more_le}, lemmas.Option.{get_or_from_slice_get, slice_get_within}}
use Rattle.std.specs.Prelude.{get_or}
use Rattle.ppdb_base.specs.declared.{limits.TheConstants.{MAX_SPAN}, code.Code.{Code}, fault.Place.{Place}}
use Rattle.ppdb_tables.specs.RawTables.{RawTables}
use Rattle.ppdb_verify_total.specs.{HeapUses.{HeapUse, heap_uses}, Spans.{SpanFaults}, Spans.SpanFaults.{span_total}}

pub none_passes : (raw : RawTables) → sum_by (λ (x : HeapUse). x.len) (heap_uses raw) ≤ MAX_SPAN → (code : Code) (at : Place) → SpanFaults raw code at → ⊥
none_passes raw within _ _ (span_total k r here over) =
    let up = sum_by_more_le (λ (x : HeapUse). x.len) (heap_uses raw) k r (slice_get_within (heap_uses raw) k r here) in
    let same : get_or (heap_uses raw) k r ≡ r = get_or_from_slice_get (heap_uses raw) k r r here in
    let last = rw same at up in
    omega (arith, last, over, within)
