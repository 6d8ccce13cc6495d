use Rattle.threads_tests.proofs.openings.fills.Given as goal

abbrev pub ghosts-named_fills : goal.ghosts-named_fills
ghosts-named_fills a = record { board = a.unnamed.board; opened = a.unnamed.core }
