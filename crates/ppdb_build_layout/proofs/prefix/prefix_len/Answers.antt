use Rattle.std.proofs.Common.{length, arith}
use Rattle.ppdb_build_layout.{specs.Bytes.{pdb_stream, tables_stream}, proofs.Lengths.{length-prefix}}
use Rattle.ppdb_build_layout.proofs.prefix.prefix_len.Goals as goal

pub returns : goal.returns
returns c id entry long =
    let pdb = length (pdb_stream id entry c.args.counts.now) in
    let tables = length (tables_stream c.args.counts.now c.args.rows.now c.args.heaps) in
    omega (
      arith,
      c.saturating_add.ensures,
      c.pdb_len.ensures.exact id entry long,
      c.tables_len.ensures,
      length-prefix id entry c.args.counts.now c.args.rows.now c.args.heaps,
    )
