use Rattle.std.proofs.{Common.{◌<◌, length, take, sum, ap, ◌∙◌, arith}, lemmas.Result.{err_from_is_err_and}}
use Rattle.ppdb_base.specs.Place.{at_byte}
use Rattle.ppdb_tables.proofs.FieldLists.{field_at}
use Rattle.ppdb_tables.proofs.counts.Part.fields_end.Goals as goal

pub returns-in_err-end-clause-short : goal.returns-in_err-end-clause-short
returns-in_err-end-clause-short c =
    let p = err_from_is_err_and c.from_residual.result c.from_residual.ensures.1 in
    let i = c.loop-len.invariant in
    let lens = c.args.lens.now in
    let index = c.loop-len.len-index in
    let there : index < length lens = c.loop-len-test.true in
    let short = c.in_err-end.ensures.short in
    rw (p.1, p.2) (
      sum (take index lens),
      _,
      field_at lens index there,
      short.0 ∙ ap (λ b. record { code = c.args.self.short; place = at_byte c.args.self.number b }) i.end,
      omega (arith, i.end, i.inside),
      omega (arith, i.end, short.1),
    )
