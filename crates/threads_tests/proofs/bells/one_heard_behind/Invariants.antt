use Rattle.threads_tests.proofs.bells.one_heard_behind.Given as goal

abbrev pub ghosts-named_heard_behind : goal.ghosts-named_heard_behind
ghosts-named_heard_behind g a = record { board = a.unnamed.board; opened = a.unnamed.core }
