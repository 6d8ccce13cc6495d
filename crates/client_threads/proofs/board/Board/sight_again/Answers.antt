use Rattle.std.proofs.Common.{◌∙◌, sym, ap, arith}
use Rattle.client_threads.proofs.Boards.{looks}
use Rattle.client_threads.proofs.board.Board.sight_again.Goals as goal

pub split_seat-requires : goal.split_seat-requires
split_seat-requires c = (
  ap (λ k. k.board) c.sight.view_is ∙ (c.requires ∙ sym c.self.view_is),
  omega (arith, c.self.invariant),
  looks c.sight.inside.seat.id c.sight.inside.seat.me.0,
)
