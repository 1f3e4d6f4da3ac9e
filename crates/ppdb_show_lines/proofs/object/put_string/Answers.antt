use Rattle.std.proofs.{Common.{sym, ◌∙◌}, lemmas.Str.{IsUtf8-from_ascii}}
use Rattle.ppdb_show_lines.{specs.Lines.{content_text}, specs.Views.{content_of}, proofs.Ascii.{content_ascii, given}}
use Rattle.ppdb_show_lines.proofs.object.put_string.Goals as goal

pub unreachable-requires : goal.unreachable-requires
unreachable-requires c =
    let e = given c.put_item.result c.new-sink.result c.put_item.new.out (content_text (content_of c.args.item.now)) (sym c.is_err.ensures.value
    ∙ c.if-is_err.false) c.new-sink.ensures c.put_item.ensures.ok in
    c.in-Err.ensures.cases.0 (IsUtf8-from_ascii _ (rw (c.as_slice.ensures ∙ e) (content_ascii (content_of c.args.item.now) c.requires)))
