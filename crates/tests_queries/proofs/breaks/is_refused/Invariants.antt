use Rattle.tests_queries.proofs.breaks.is_refused.Given as goal

abbrev pub ghosts-is_refused_in : goal.ghosts-is_refused_in
ghosts-is_refused_in a = record { name = a.blank.name; parts = a.blank.parts }
