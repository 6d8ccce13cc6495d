use Rattle.threads_tests.proofs.gates.count_told.Given as goal

abbrev pub ghosts-named_count_told : goal.ghosts-named_count_told
ghosts-named_count_told g a = record { board = a.unnamed.board; opened = a.unnamed.core }
