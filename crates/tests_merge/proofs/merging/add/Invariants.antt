use Rattle.tests_merge.proofs.merging.add.Given as goal

abbrev pub ghosts-add_in : goal.ghosts-add_in
ghosts-add_in a = record { name = a.blank.name; parts = a.blank.parts }
