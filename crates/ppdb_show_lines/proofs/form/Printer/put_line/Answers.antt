use Rattle.ppdb_show_lines.{specs.Views.{line_of}, specs.declared.form.Form.TheVariants.{Text, Json}, proofs.Texts.{one_line}}
use Rattle.ppdb_show_lines.proofs.form.Printer.put_line.Goals as goal

pub returns-in-Text : goal.returns-in-Text
returns-in-Text g c = rw (c.in-Text.is, one_line Text (line_of c.args.word.now c.args.parts.now)) c.put_text_line.ensures

pub returns-in-Json : goal.returns-in-Json
returns-in-Json g c = rw (c.in-Json.is, one_line Json (line_of c.args.word.now c.args.parts.now)) c.put_json_line.ensures
