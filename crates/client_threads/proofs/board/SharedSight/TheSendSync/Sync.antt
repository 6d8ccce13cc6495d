-- A `&` to it says the same to every thread, since nothing of it is reached.
use denote.Param.Send.{IsSend, IsSync, part_keyless}
use Rattle.client_threads.specs.contracts.board.SharedSight.{the_row}
use Rattle.client_threads.specs.contracts.board.SharedSight.TheInside as inside
use Rattle.client_threads.proofs.board.Sight.TheSendSync.{the_send}

within_send : IsSend inside.the_row
within_send = record { owned = λ d vs. ((λ vss. (tt, (the_send.owned d.sight vss.0, tt))), tt); leaving = λ k d w. (tt, tt) }

pub sync : IsSync the_row
sync = record { shared = λ d b o κ h. ((λ q. part_keyless inside.the_row within_send q h.0 b o), tt) }
