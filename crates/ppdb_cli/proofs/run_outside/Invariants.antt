use Rattle.ppdb_cli.proofs.run_outside.Given as goal

abbrev pub ghosts-run_counted-K-Ledger : goal.ghosts-run_counted-K-Ledger
ghosts-run_counted-K-Ledger g a = record { name = a.checks.name; parts = a.checks.parts }

abbrev pub ghosts-run_counted-L-Ledger : goal.ghosts-run_counted-L-Ledger
ghosts-run_counted-L-Ledger g a = record { name = a.steps.name; parts = a.steps.parts }
