use Rattle.threads_tests.proofs.endings.taken_alone.Given as goal

abbrev pub ghosts-named_taken_alone : goal.ghosts-named_taken_alone
ghosts-named_taken_alone a = record { board = a.unnamed.board; opened = a.unnamed.core }
