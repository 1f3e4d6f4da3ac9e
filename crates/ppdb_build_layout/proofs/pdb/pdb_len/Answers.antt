use Rattle.std.proofs.Common.{◌+◌, ◌*◌, sym, ap, ◌∙◌}
use Rattle.ppdb_build_layout.{specs.Bytes.{padding}, proofs.Lengths.{length-pdb}}
use Rattle.ppdb_build_layout.proofs.pdb.pdb_len.Goals as goal

pub returns-clause-exact : goal.returns-clause-exact
returns-clause-exact c id entry long =
    ap (λ n. 32 + 4 * c.count.result + n) c.padding.ensures.exact
    ∙ ap (λ n. 32 + 4 * n + padding (32 + 4 * n)) c.count.ensures.exact
    ∙ sym (length-pdb id entry c.args.counts.now long)
