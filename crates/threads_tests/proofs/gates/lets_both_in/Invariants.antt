use Rattle.threads_tests.proofs.gates.lets_both_in.Given as goal

abbrev pub ghosts-named_lets_both_in : goal.ghosts-named_lets_both_in
ghosts-named_lets_both_in g a = record { board = a.unnamed.board; opened = a.unnamed.core }
