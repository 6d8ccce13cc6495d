use Rattle.ring.proofs.ring.Ring.load.Given as goal

abbrev pub ghosts-load_as : goal.ghosts-load_as
ghosts-load_as a = record { size = a.self.now.size; producers = a.self.now.producers; access = a.access }
