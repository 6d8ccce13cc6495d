use Rattle.client_threads.proofs.Places.{each_once}
use Rattle.client_threads.proofs.laws.law_each_place_is_ones_own.Goals as goal

pub returns : goal.returns
returns c = each_once
