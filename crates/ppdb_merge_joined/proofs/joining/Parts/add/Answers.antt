use Rattle.std.proofs.Common.{◌++◌, subst, sym}
use Rattle.ppdb_merge_joined.{specs.Gathered.{Holds}, proofs.PutFiles.{docs, put_more}}
use Rattle.ppdb_merge_joined.proofs.joining.Parts.add.Goals as goal

pub returns-clause-put : goal.returns-clause-put
returns-clause-put c = λ before put.
    put_more before c.args.file c.args.self.now c.put.new.self c.in_ok-rows.rows put
    (subst (Holds (docs before ++ c.args.file.documents)) (sym c.in_ok-put.ensures.documents) (c.in_ok-rows.ensures.gathered (docs before) put.documents))
    (c.in_ok-rows.ensures.rows (docs before) put.documents) c.in_ok-put.ensures.methods c.in_ok-put.ensures.scopes c.in_ok-put.ensures.imports
    c.in_ok-put.ensures.machines c.in_ok-put.ensures.customs
