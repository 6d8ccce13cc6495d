use Rattle.threads_tests.proofs.sections.one_publishes_beside.Given as goal

abbrev pub ghosts-named_publishes_beside : goal.ghosts-named_publishes_beside
ghosts-named_publishes_beside g a = record { board = a.unnamed.board; opened = a.unnamed.core }
