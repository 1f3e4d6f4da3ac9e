use Rattle.tests_queries.proofs.copies.a_verified_file_is_copied.Given as goal

abbrev pub ghosts-entry : goal.ghosts-entry
ghosts-entry g a = record { name = a.blank.name; parts = a.blank.parts }
