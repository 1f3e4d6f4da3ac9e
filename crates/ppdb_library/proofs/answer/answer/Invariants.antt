use Rattle.ppdb_library.proofs.answer.answer.Given as goal

abbrev pub ghosts-end-K-Ledger : goal.ghosts-end-K-Ledger
ghosts-end-K-Ledger a = record { name = a.checks.name; parts = a.checks.parts }

abbrev pub ghosts-end-L-Ledger : goal.ghosts-end-L-Ledger
ghosts-end-L-Ledger a = record { name = a.steps.name; parts = a.steps.parts }
