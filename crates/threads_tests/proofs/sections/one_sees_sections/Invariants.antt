use Rattle.threads_tests.proofs.sections.one_sees_sections.Given as goal

abbrev pub ghosts-named_sees_sections : goal.ghosts-named_sees_sections
ghosts-named_sees_sections g a = record { board = a.unnamed.board; opened = a.unnamed.core }
