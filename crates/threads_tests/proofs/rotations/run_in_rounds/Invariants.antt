use Rattle.threads_tests.proofs.rotations.run_in_rounds.Given as goal

abbrev pub ghosts-named_run_in_rounds : goal.ghosts-named_run_in_rounds
ghosts-named_run_in_rounds g a = record { board = a.unnamed.board; opened = a.unnamed.core }
