use Rattle.threads_tests.proofs.many.run_packets.Given as goal

abbrev pub ghosts-named_run_packets : goal.ghosts-named_run_packets
ghosts-named_run_packets g a = record { board = a.unnamed.board; opened = a.unnamed.core }
