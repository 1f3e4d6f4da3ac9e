use Rattle.std.{proofs.Common.{sym, ap, ◌∙◌}, specs.Prelude.{is_some}}
use Rattle.ppdb_maps.{specs.Rules.{second_rows}, proofs.Refusing.{repeated}}
use Rattle.ppdb_maps.proofs.draft.Draft.add_rows.Goals as goal

pub returns-then-contains_key : goal.returns-then-contains_key
returns-then-contains_key c = λ before closed.
    repeated before _ (second_rows (sym (ap is_some (closed.others.counts c.args.table)) ∙ (sym c.contains_key.ensures ∙ c.if-contains_key.true)))
