use Rattle.tests_blobs_program.proofs.check.Given as goal

abbrev pub ghosts-put_counted : goal.ghosts-put_counted
ghosts-put_counted a = record { name = a.rows.name; parts = a.rows.parts }
