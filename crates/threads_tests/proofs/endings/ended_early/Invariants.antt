use Rattle.threads_tests.proofs.endings.ended_early.Given as goal

abbrev pub ghosts-named_ended_early : goal.ghosts-named_ended_early
ghosts-named_ended_early g a = record { board = a.unnamed.board; opened = a.unnamed.core }
