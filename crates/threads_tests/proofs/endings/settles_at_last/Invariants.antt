use Rattle.threads_tests.proofs.endings.settles_at_last.Given as goal

abbrev pub ghosts-named_settles_at_last : goal.ghosts-named_settles_at_last
ghosts-named_settles_at_last a = record { board = a.unnamed.board; opened = a.unnamed.core }
