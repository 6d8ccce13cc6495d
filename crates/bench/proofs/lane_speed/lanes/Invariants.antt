use Rattle.bench.proofs.lane_speed.lanes.Given as goal

abbrev pub ghosts-run_named : goal.ghosts-run_named
ghosts-run_named g a = record { board = a.unnamed.board; opened = a.unnamed.core }
