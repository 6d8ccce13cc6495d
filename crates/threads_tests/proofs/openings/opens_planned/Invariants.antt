use Rattle.threads_tests.proofs.openings.opens_planned.Given as goal

abbrev pub ghosts-named_opens_planned : goal.ghosts-named_opens_planned
ghosts-named_opens_planned a = record { board = a.unnamed.board; opened = a.unnamed.core }
