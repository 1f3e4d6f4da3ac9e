use Rattle.std.{proofs.Common.{◌≡◌, ℕ, List, [], ◌∷◌, ◌++◌, refl, append_assoc}, specs.List.{range_with_len}}
use Rattle.byteorder.specs.Endian.{little_bytes}
use Rattle.ppdb_build_layout.{specs.Bytes.{tables_stream, with_rows, counts_of, bits_of, heap_bits, all_rows, sizes_of}, proofs.Begins.{begins-more}}
use Rattle.ppdb_build_layout.proofs.Lengths.{padded-put}
use Rattle.ppdb_base.proofs.Written.{on_err}
use Rattle.ppdb_build_layout.proofs.stream.put_tables.Goals as goal

six : (old a b c d e f : List ℕ) → old ++ a ++ b ++ c ++ d ++ e ++ f ≡ old ++ (a ++ b ++ c ++ d ++ e ++ f)
six old a b c d e f = simp append_assoc refl

pub returns-clause-ok : goal.returns-clause-ok
unfolding tables_stream
returns-clause-ok c =
    let counts = c.args.counts.now in
    let heaps = c.args.heaps in
    let tables = with_rows counts (range_with_len 0x30 8) in
    let bytes = little_bytes 4 0 ++ (2 ∷ 0 ∷ heap_bits heaps ∷ 1 ∷ []) ++ little_bytes 8 (bits_of tables)
    ++ little_bytes 8 0x00c4000000000000 ++ counts_of counts tables ++ all_rows (sizes_of counts heaps) c.args.rows.now in
    padded-put c.args.into.now bytes c.put_all_rows.new.into c.put_padding.new.into c.len-start.result c.len.result
    (rw (
      c.in_ok-put_all_rows.ensures.ok,
      c.in_ok-put_counts.ensures.ok,
      c.in_ok-put_u64-2.ensures.ok,
      c.in_ok-put_u64.ensures.ok,
      c.in_ok-append.ensures.ok,
      c.in_ok-put_u32.ensures.ok,
      c.bits.ensures,
      c.sizes-sizes.ensures,
    ) (six c.args.into.now (little_bytes 4 0) (2 ∷ 0 ∷ heap_bits heaps ∷ 1 ∷ []) (little_bytes 8 (bits_of tables))
    (little_bytes 8 0x00c4000000000000) (counts_of counts tables) (all_rows (sizes_of counts heaps) c.args.rows.now)))
    c.len-start.ensures c.len.ensures c.in_ok-put_padding.ensures.ok

pub returns-in_err-put_all_rows-clause-err : goal.returns-in_err-put_all_rows-clause-err
returns-in_err-put_all_rows-clause-err c =
    on_err c.from_residual-in_err-put_all_rows.result (begins-more _ _ _ _ (begins-more _ _ _ _ (begins-more _ _ _ _ (begins-more _ _ _ _
    (begins-more _ _ _ _ c.in_err-put_all_rows.ensures.err c.in_ok-put_counts.ensures.ok) c.in_ok-put_u64-2.ensures.ok) c.in_ok-put_u64.ensures.ok)
    c.in_ok-append.ensures.ok) c.in_ok-put_u32.ensures.ok)

pub returns-in_err-put_padding-clause-err : goal.returns-in_err-put_padding-clause-err
returns-in_err-put_padding-clause-err c =
    on_err c.from_residual-in_err-put_padding.result (begins-more _ _ _ _ (begins-more _ _ _ _ (begins-more _ _ _ _ (begins-more _ _ _ _
    (begins-more _ _ _ _ (begins-more _ _ _ _ c.in_err-put_padding.ensures.err c.in_ok-put_all_rows.ensures.ok) c.in_ok-put_counts.ensures.ok)
    c.in_ok-put_u64-2.ensures.ok) c.in_ok-put_u64.ensures.ok) c.in_ok-append.ensures.ok) c.in_ok-put_u32.ensures.ok)
