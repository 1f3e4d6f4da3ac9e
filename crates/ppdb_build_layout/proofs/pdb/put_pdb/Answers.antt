use Rattle.std.{proofs.Common.{◌≡◌, ℕ, List, ◌++◌, refl, append_assoc}, specs.List.{range_with_len}}
use Rattle.byteorder.specs.Endian.{little_bytes}
use Rattle.ppdb_tables.specs.Head.{method_token}
use Rattle.ppdb_build_layout.{specs.Bytes.{pdb_stream, with_rows, counts_of, bits_of}, proofs.Begins.{begins-more}, proofs.Lengths.{padded-put}}
use Rattle.ppdb_base.proofs.Written.{on_err}
use Rattle.ppdb_build_layout.proofs.pdb.put_pdb.Goals as goal

four : (old a b c d : List ℕ) → old ++ a ++ b ++ c ++ d ≡ old ++ (a ++ b ++ c ++ d)
four old a b c d = simp append_assoc refl

pub returns-clause-ok : goal.returns-clause-ok
unfolding pdb_stream
returns-clause-ok c =
    let tables = with_rows c.args.counts.now (range_with_len 0 0x2d) in
    let bytes = c.args.id.now ++ little_bytes 4 (method_token c.args.entry) ++ little_bytes 8 (bits_of tables) ++ counts_of c.args.counts.now tables in
    padded-put c.args.into.now bytes c.put_counts.new.into c.put_padding.new.into c.len-start.result c.len.result
    (rw (c.in_ok-put_counts.ensures.ok, c.in_ok-put_u64.ensures.ok, c.in_ok-put_u32.ensures.ok, c.in_ok-append.ensures.ok, c.method_token.ensures, c.bits.ensures)
    (four c.args.into.now c.args.id.now (little_bytes 4 (method_token c.args.entry)) (little_bytes 8 (bits_of tables)) (counts_of c.args.counts.now tables)))
    c.len-start.ensures c.len.ensures c.in_ok-put_padding.ensures.ok

pub returns-in_err-put_counts-clause-err : goal.returns-in_err-put_counts-clause-err
returns-in_err-put_counts-clause-err c =
    on_err c.from_residual-in_err-put_counts.result (begins-more _ _ _ _ (begins-more _ _ _ _
    (begins-more _ _ _ _ c.in_err-put_counts.ensures.err c.in_ok-put_u64.ensures.ok) c.in_ok-put_u32.ensures.ok) c.in_ok-append.ensures.ok)

pub returns-in_err-put_padding-clause-err : goal.returns-in_err-put_padding-clause-err
returns-in_err-put_padding-clause-err c =
    on_err c.from_residual-in_err-put_padding.result (begins-more _ _ _ _ (begins-more _ _ _ _ (begins-more _ _ _ _
    (begins-more _ _ _ _ c.in_err-put_padding.ensures.err c.in_ok-put_counts.ensures.ok) c.in_ok-put_u64.ensures.ok) c.in_ok-put_u32.ensures.ok)
    c.in_ok-append.ensures.ok)
