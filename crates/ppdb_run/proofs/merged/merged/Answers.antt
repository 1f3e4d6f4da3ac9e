use Rattle.ppdb_run.proofs.merged.merged.Goals as goal

pub returns-in-One-clause-causes : goal.returns-in-One-clause-causes
returns-in-One-clause-causes g c = λ output keep. rw c.in-One.is (rw c.new-merger.ensures at c.add_one.ensures.causes output keep)

pub returns-in-Pairs-clause-causes : goal.returns-in-Pairs-clause-causes
returns-in-Pairs-clause-causes g c = λ output keep. rw c.in-Pairs.is (rw c.new-merger.ensures at c.add_pairs.ensures.causes output keep)
