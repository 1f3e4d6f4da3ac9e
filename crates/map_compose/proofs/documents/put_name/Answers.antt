use Rattle.std.proofs.Common.{ap, sym, subst, ◌∙◌}
use Rattle.ppdb_maps.specs.{declared.line.Line.TheVariants.{Document}, Map.{moved_name}}
use Rattle.ppdb_maps_text.specs.MapTexts.{ended, line_text}
use Rattle.map_compose.{specs.Composed.{document_entry}, specs.Fits.{IsShort}, specs.Spelled.{spelled_length}, proofs.NameLengths.{line_counted, moved_short}}
use Rattle.map_compose.proofs.documents.put_name.Goals as goal

pub of_moved-new-requires-clause-short : goal.of_moved-new-requires-clause-short
of_moved-new-requires-clause-short c =
    subst IsShort (sym c.moved_name-middle.ensures) (moved_short 134217728 c.args.first.now c.args.name.now c.requires.own c.requires.short)

pub returns : goal.returns
returns c =
    let entry = document_entry c.args.first.now c.args.second.now c.args.name.now in
    c.count_on.ensures (ended (line_text (Document entry)))
    (line_counted entry c.spelled_length.result c.of_moved-new.result c.spelled_length.ensures.length
    (c.of_moved-new.ensures.length ∙ ap (λ n. spelled_length (moved_name c.args.second.now n)) c.moved_name-middle.ensures))
