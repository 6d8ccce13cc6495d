use Rattle.ring.proofs.ring.Ring.add_one.Given as goal

abbrev pub ghosts-add_one_as : goal.ghosts-add_one_as
ghosts-add_one_as a = record { size = a.self.now.size; producers = a.self.now.producers; access = a.access }
