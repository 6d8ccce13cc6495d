use Rattle.bench.proofs.wants.broker.open_queues.Given as goal

abbrev pub ghosts-open_two : goal.ghosts-open_two
ghosts-open_two a = record { board = a.unnamed.board; opened = a.unnamed.core }
