use Rattle.std.proofs.Common.{ap, [], ◌∷◌}
use Rattle.ppdb_maps.specs.declared.line.Line.TheVariants.{Document}
use Rattle.map_compose.{specs.Composed.{document_entry}, specs.Parts.{names_left}, proofs.NameLengths.{left_short}, proofs.Putting.{names_say, some_next, says_one}}
use Rattle.map_compose.proofs.documents.put_documents.Goals as goal

pub put_name-requires-clause-short : goal.put_name-requires-clause-short
put_name-requires-clause-short c =
    left_short 134217728 c.args.first.now c.args.second.now c.names.passed c.in-Some.name.now
    (names_left c.args.first.now c.args.second.now c.next_name.new.passed) c.requires.own c.requires.other c.in-Some.ensures

pub names-preserved : goal.names-preserved
names-preserved c =
    let line = Document (document_entry c.args.first.now c.args.second.now c.in-Some.name.now) in
    record {
      lengths = c.in_ok-count.ensures.are;
      puts = some_next _ _ _ _ _ _ (line ∷ []) (ap (names_say c.args.first.now c.args.second.now) c.in-Some.ensures) c.names.invariant.puts
          (says_one c.names.text c.put_name.new.text line c.in_ok-put_name.ensures);
    }
