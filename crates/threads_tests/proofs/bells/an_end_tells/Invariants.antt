use Rattle.threads_tests.proofs.bells.an_end_tells.Given as goal

abbrev pub ghosts-named_end_tells : goal.ghosts-named_end_tells
ghosts-named_end_tells g a = record { board = a.unnamed.board; opened = a.unnamed.core }
