use Rattle.threads_tests.proofs.bells.bells_tell.Given as goal

abbrev pub ghosts-named_bells_tell : goal.ghosts-named_bells_tell
ghosts-named_bells_tell g a = record { board = a.unnamed.board; opened = a.unnamed.core }
