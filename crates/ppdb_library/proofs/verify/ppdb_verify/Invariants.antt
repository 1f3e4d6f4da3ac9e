use Rattle.ppdb_library.proofs.verify.ppdb_verify.Given as goal

abbrev pub ghosts-verified : goal.ghosts-verified
ghosts-verified a = record { name = a.steps.name; parts = a.steps.parts }
