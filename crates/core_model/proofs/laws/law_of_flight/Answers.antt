-- The law is proved of definitions alone.
use Rattle.core_model.proofs.FlightLaw.{law-of_flight}
use Rattle.core_model.proofs.laws.law_of_flight.Goals as goal

pub returns : goal.returns
returns c = law-of_flight
