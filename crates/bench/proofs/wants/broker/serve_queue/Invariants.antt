use Rattle.bench.proofs.wants.broker.serve_queue.Given as goal

abbrev pub ghosts-serve_named : goal.ghosts-serve_named
ghosts-serve_named g a = record { board = a.unnamed.board; opened = a.unnamed.core }
