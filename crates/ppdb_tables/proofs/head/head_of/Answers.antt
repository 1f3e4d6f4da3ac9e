use Rattle.std.proofs.Common.{lit<, slice_index, sym, subst, ◌∙◌}
use Rattle.ppdb_base.proofs.Judging.{first_of_after}
use Rattle.ppdb_tables.{specs.Head.{PdbFieldFaults, EntryFaults, NamesMethod, entry_in}, proofs.FirstOfHead.{entry_is_first}}
use Rattle.ppdb_tables.proofs.head.head_of.Goals as goal

pub returns-in_default-clause-first : goal.returns-in_default-clause-first
returns-in_default-clause-first c =
    let stream = c.args.bytes.now in
    let none = c.in_default.ensures.none in
    let methods = c.in_ok-rows.ensures.rows 6 (lit< tt) in
    first_of_after (PdbFieldFaults stream) (EntryFaults stream) c.fault.result c.in_ok-rows.ensures.accepted
    (entry_is_first stream c.fault.result c.fault.ensures (λ e. none.0 (c.u32_at.ensures ∙ e))
    (λ names. none.1 (subst (λ token. NamesMethod (slice_index c.in_ok-rows.rows 6) token) (sym c.u32_at.ensures)
    (subst (λ n. NamesMethod n (entry_in stream)) (sym methods) names))))
