use Rattle.tests_queries.proofs.on_rows.runs_are.Given as goal

abbrev pub ghosts-runs_are_in : goal.ghosts-runs_are_in
ghosts-runs_are_in a = record { name = a.blank.name; parts = a.blank.parts }
