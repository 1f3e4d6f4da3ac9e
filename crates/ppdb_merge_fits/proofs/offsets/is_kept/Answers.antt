use Rattle.std.proofs.Common.{sym, ◌∙◌, ap, ◌+◌}
use Rattle.ppdb_base.{specs.Offsets.{is_kept_between}, proofs.Moved.{kept_test}}
use Rattle.ppdb_maps.specs.{Map.{offsets_in}, Says.{offsets_of}}
use Rattle.ppdb_merge_fits.proofs.Far.{far_is}
use Rattle.ppdb_merge_fits.proofs.offsets.is_kept.Goals as goal

pub returns : goal.returns
returns c =
    let o = offsets_of c.method.result.says in
    sym (kept_test o c.method.result.rises c.args.offset (c.args.offset + 1) c.kept_between.result c.kept_between.ensures)
    ∙ ap (λ o. is_kept_between o c.args.offset (c.args.offset + 1)) c.method.ensures

pub returns-then-offset-eq4294967295 : goal.returns-then-offset-eq4294967295
returns-then-offset-eq4294967295 c =
    c.keeps_all.ensures ∙ sym (far_is c.args.map.now c.facts.ensures c.args.method)
    ∙ ap (λ n. is_kept_between (offsets_in c.args.map.now c.args.method) n (n + 1)) (sym c.if-offset-eq4294967295.true)
