use Rattle.std.proofs.lemmas.Result.{err_from_is_err_and}
use Rattle.ppdb_maps.proofs.Looping.{head_refused, refused_as}
use Rattle.ppdb_maps.proofs.read.read_map.Goals as goal

pub returns-in_default-clause-refused : goal.returns-in_default-clause-refused
returns-in_default-clause-refused c =
    rw c.kind.ensures (head_refused c.args.text.now c.first_line.result.0.now c.first_line.result.1.now c.first_line.ensures c.in_default.ensures.none)

pub returns-in_err-draft-clause-refused : goal.returns-in_err-draft-clause-refused
returns-in_err-draft-clause-refused c =
    let p = err_from_is_err_and c.from_residual.result c.from_residual.ensures.1 in
    rw (p.1, p.2) (refused_as c.args.text.now c.first_line.result.0.now c.first_line.result.1.now c.in-Some.version _ c.first_line.ensures
    c.in-Some.ensures.some c.in_err-draft.ensures.refused)
