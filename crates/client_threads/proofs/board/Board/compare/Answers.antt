use Rattle.std.proofs.Common.{◌∙◌, sym, ap, arith}
use Rattle.client_threads.proofs.Boards.{unites, tells_as}
use Rattle.client_threads.proofs.board.Board.compare.Goals as goal

pub join_seat-requires : goal.join_seat-requires
join_seat-requires c = (
  ap (λ k. k.board) c.front.view_is ∙ (c.requires.0 ∙ sym c.self.view_is),
  ap (λ k. k.board) c.sight.view_is ∙ (c.requires.1 ∙ sym c.self.view_is),
  ap (λ m. m.1) c.sight.invariant,
  omega (arith, c.self.invariant),
  unites c.front.inside.seat.id c.front.inside.seat.me.0 c.sight.inside.seat.id c.sight.inside.seat.me.0,
)

pub load-requires : goal.load-requires
load-requires c = (
  c.join_seat.ensures.0 ∙ (ap (λ k. k.board) c.front.view_is ∙ (c.requires.0 ∙ sym c.self.view_is)),
  omega (arith, c.self.invariant),
  tells_as c.self.inside.table.shared.table_id.slots c.join_seat.new.seat.id c.join_seat.new.seat.me (ap (λ m. m.1) c.join_seat.ensures.2 ∙ ap (λ m. m.1) c.front.invariant.0),
)
