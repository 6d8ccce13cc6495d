use Rattle.threads_tests.proofs.endings.fault.Given as goal

abbrev pub ghosts-named_fault : goal.ghosts-named_fault
ghosts-named_fault a = record { board = a.unnamed.board; opened = a.unnamed.core }
