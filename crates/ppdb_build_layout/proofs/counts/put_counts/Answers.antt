use Rattle.std.{proofs.Common.{◌+◌, ◌++◌, ap, sym, ◌∙◌, append_assoc}, specs.Prelude.{slice_index}, specs.List.{range_with_len}}
use Rattle.byteorder.specs.Endian.{little_bytes}
use Rattle.ppdb_build_layout.{specs.Bytes.{with_rows, counts_of}, proofs.Tables.{next-none, counts-some}}
use Rattle.ppdb_build_layout.proofs.counts.put_counts.Goals as goal
use Rattle.ppdb_build_layout.proofs.counts.put_counts.Goals.{then-rows-gt0+in_ok-put_u32, else-rows-gt0}

pub loop-i-preserved : goal.loop-i-preserved
loop-i-preserved c =
    let counts = c.args.counts.now in
    let first = c.args.first in
    let i = c.loop-i.i in
    let tables = with_rows counts (range_with_len first i) in
    elim c.if-rows-gt0.branch [
      | then-rows-gt0+in_ok-put_u32 w ↦
          w.into-is ∙ w.in_ok-put_u32.ensures.ok
          ∙ ap (λ into. into ++ little_bytes 4 (slice_index counts (first + i))) c.loop-i.invariant
          ∙ append_assoc c.args.into.now (counts_of counts tables) (little_bytes 4 (slice_index counts (first + i)))
          ∙ ap (λ bytes. c.args.into.now ++ bytes) (sym (counts-some counts first i w.if-rows-gt0.true))
      | else-rows-gt0 w ↦ w.into-is ∙ c.loop-i.invariant
          ∙ ap (λ ts. c.args.into.now ++ counts_of counts ts) (sym (next-none counts first i w.if-rows-gt0.false))
    ]
