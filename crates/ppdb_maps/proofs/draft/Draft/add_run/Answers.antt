use Rattle.ppdb_maps.proofs.Adding.{run_added, run_unowned}
use Rattle.ppdb_maps.proofs.draft.Draft.add_run.Goals as goal

pub returns-in-Some : goal.returns-in-Some
returns-in-Some c = λ before holds.
    run_added before c.args.self.now c.in-Some.method c.add.new.self c.args.run c.add.result holds c.in-Some.is c.add.ensures.added c.add.ensures.kept
    c.add.ensures.refused

pub returns-in-None : goal.returns-in-None
returns-in-None c = λ before holds. run_unowned before c.args.self.now c.args.run holds c.in-None.is
