use Rattle.client_threads.proofs.Sections.{in_order}
use Rattle.client_threads.proofs.laws.law_sections_stand_in_order.Goals as goal

pub returns : goal.returns
returns c = in_order
