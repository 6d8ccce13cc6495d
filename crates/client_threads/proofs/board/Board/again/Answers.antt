use Rattle.std.proofs.Common.{◌∙◌, sym, ap, arith}
use Rattle.client_threads.proofs.Boards.{deals}
use Rattle.client_threads.proofs.board.Board.again.Goals as goal

pub split_seat-requires : goal.split_seat-requires
split_seat-requires c = (
  ap (λ k. k.board) c.front.view_is ∙ (c.requires.0 ∙ sym c.self.view_is),
  omega (arith, c.self.invariant),
  deals c.front.inside.seat.id c.front.inside.seat.me.0 (omega (arith, c.requires.1, ap (λ k. k.share) c.front.view_is)),
)
