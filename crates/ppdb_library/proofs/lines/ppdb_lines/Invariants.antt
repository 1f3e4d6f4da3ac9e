use Rattle.ppdb_library.proofs.lines.ppdb_lines.Given as goal

abbrev pub ghosts-verified_lines : goal.ghosts-verified_lines
ghosts-verified_lines a = record { name = a.steps.name; parts = a.steps.parts }
