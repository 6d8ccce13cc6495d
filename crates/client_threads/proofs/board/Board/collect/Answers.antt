use Rattle.std.proofs.Common.{◌∙◌, sym, ap, arith}
use Rattle.client_threads.proofs.Boards.{unites, checks_as}
use Rattle.client_threads.proofs.board.Board.collect.Goals as goal

pub join_seat-requires : goal.join_seat-requires
join_seat-requires c = (
  ap (λ k. k.board) c.keeper.view_is ∙ (c.requires.0 ∙ sym c.self.view_is),
  ap (λ k. k.board) c.front.view_is ∙ (c.requires.1 ∙ sym c.self.view_is),
  ap (λ m. m.1) c.front.invariant.0,
  omega (arith, c.self.invariant),
  unites c.keeper.inside.seat.id c.keeper.inside.seat.me.0 c.front.inside.seat.id c.front.inside.seat.me.0,
)

pub load-requires : goal.load-requires
load-requires c = (
  c.join_seat.ensures.0 ∙ (ap (λ k. k.board) c.keeper.view_is ∙ (c.requires.0 ∙ sym c.self.view_is)),
  omega (arith, c.self.invariant),
  checks_as c.self.inside.table.shared.table_id.slots c.join_seat.new.seat.id c.join_seat.new.seat.me
      (ap (λ m. m.1) c.join_seat.ensures.2 ∙ ap (λ m. m.1) c.keeper.invariant)
      (ap (λ m. m.0.writes) c.join_seat.ensures.2 ∙ ap (λ m. m.0.writes) c.keeper.invariant),
)
