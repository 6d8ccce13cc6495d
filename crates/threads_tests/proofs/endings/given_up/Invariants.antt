use Rattle.threads_tests.proofs.endings.given_up.Given as goal

abbrev pub ghosts-named_given_up : goal.ghosts-named_given_up
ghosts-named_given_up a = record { board = a.unnamed.board; opened = a.unnamed.core }
