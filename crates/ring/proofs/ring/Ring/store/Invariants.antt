use Rattle.ring.proofs.ring.Ring.store.Given as goal

abbrev pub ghosts-store_as : goal.ghosts-store_as
ghosts-store_as a = record { size = a.self.now.size; producers = a.self.now.producers; access = a.access }
