-- It goes to another thread as its sight does.
use denote.Param.Send.{IsSend}
use Rattle.client_threads.specs.contracts.board.SharedSight.{the_row}
use Rattle.client_threads.proofs.board.Sight.TheSendSync.{the_send}

pub send : IsSend the_row
send = record { owned = λ d vs h. (((λ vss. (tt, (the_send.owned h.0.sight vss.0, tt))), tt), tt); leaving = λ k d w. tt }
