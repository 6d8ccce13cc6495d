use Rattle.client_threads.proofs.Boards.{no_share_no_section}
use Rattle.client_threads.proofs.laws.law_no_share_no_section.Goals as goal

pub returns : goal.returns
returns c = no_share_no_section
