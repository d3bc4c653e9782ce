use Rattle.thread_runs.proofs.runs.run_scripts.Given as goal

abbrev pub ghosts-run_under-L-Ledger : goal.ghosts-run_under-L-Ledger
ghosts-run_under-L-Ledger g a = record { name = a.blank.name; parts = a.blank.parts }

abbrev pub ghosts-run_under-T-Terms : goal.ghosts-run_under-T-Terms
ghosts-run_under-T-Terms g a = record { workers = a.workers; tries = a.tries; scripts = a.scripts.now }
