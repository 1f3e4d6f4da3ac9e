use Rattle.ppdb_verify.specs.Views.{raw_file}
use Rattle.ppdb_values_reading.proofs.Bodies.{documents_read, documents_whole}
use Rattle.ppdb_values_reading.proofs.customs.documents_of.Goals as goal

pub returns-clause-body : goal.returns-clause-body
returns-clause-body c =
    documents_read (raw_file c.args.file.now).tables c.args.cells.now c.new.result c.values_are_read.ensures c.requires.kind
    (rw c.count.ensures.rows at (rw c.blob.ensures.content at c.new.ensures))

pub returns-clause-whole : goal.returns-clause-whole
returns-clause-whole c =
    documents_whole (raw_file c.args.file.now).tables c.args.cells.now c.new.result
    (c.facts.ensures.rules.customs.each c.args.row c.args.cells.now c.requires.there) c.requires.kind
    (rw c.count.ensures.rows at (rw c.blob.ensures.content at c.new.ensures))
