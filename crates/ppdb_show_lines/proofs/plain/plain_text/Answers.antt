use Rattle.std.proofs.Common.{sym, ◌∙◌}
use Rattle.ppdb_base.proofs.Escaped.{plain_escaped}
use Rattle.ppdb_show_lines.proofs.plain.plain_text.Goals as goal

pub returns-in-Ok : goal.returns-in-Ok
returns-in-Ok c =
    c.in-Ok.ensures.cases.0 ∙ plain_escaped c.args.name.now (sym c.is_empty.ensures ∙ c.if-is_empty.false) c.if-not-are_plain.ensures
