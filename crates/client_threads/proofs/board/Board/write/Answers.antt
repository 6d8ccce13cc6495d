use Rattle.std.proofs.Common.{◌≡◌, ◌<◌, ◌+◌, ◌∙◌, ◌==◌, [], refl, sym, ap, arith}
use prog.Atomic.{either}
use Rattle.client_threads.specs.Boards.{keeper_view, front_view}
use Rattle.client_threads.proofs.Boards.{moves, unites, writes_as, gives}
use Rattle.client_threads.proofs.board.Board.write.Goals as goal

pub split_seat-moved-requires : goal.split_seat-moved-requires
split_seat-moved-requires c = (
  ap (λ k. k.board) c.front.view_is ∙ (c.requires.1 ∙ sym c.self.view_is),
  omega (arith, c.self.invariant),
  moves c.front.inside.seat.id c.front.inside.seat.me.0 (ap (λ m. m.0.writes) c.front.invariant.0),
)

pub join_seat-requires : goal.join_seat-requires
join_seat-requires c = (
  ap (λ k. k.board) c.keeper.view_is ∙ (ap (λ k. k.board) c.requires.0 ∙ sym c.self.view_is),
  c.split_seat-moved.ensures.3 ∙ (ap (λ k. k.board) c.front.view_is ∙ (c.requires.1 ∙ sym c.self.view_is)),
  ap (λ m. m.1) c.split_seat-moved.ensures.4,
  omega (arith, c.self.invariant),
  unites c.keeper.inside.seat.id c.keeper.inside.seat.me.0 c.split_seat-moved.result.id c.split_seat-moved.result.me.0,
)

pub compare_exchange_with-requires : goal.compare_exchange_with-requires
compare_exchange_with-requires c =
    let some_share : 0 < c.join_seat.new.seat.me.0.share = omega (arith, ap (λ m. m.0.share) c.join_seat.ensures.2, ap (λ m. m.0.share) c.split_seat-moved.ensures.4, c.front.invariant.2) in (
      c.join_seat.ensures.0 ∙ (ap (λ k. k.board) c.keeper.view_is ∙ (ap (λ k. k.board) c.requires.0 ∙ sym c.self.view_is)),
      omega (arith, c.self.invariant),
      writes_as c.self.inside.table.shared.table_id.slots c.join_seat.new.seat.id c.join_seat.new.seat.me c.args.core.now (λ n. either (n == 0) 0 n)
          (ap (λ m. m.1) c.join_seat.ensures.2 ∙ ap (λ m. m.1) c.keeper.invariant)
          (ap (λ m. m.0.writes) c.join_seat.ensures.2 ∙ ap (λ m. m.0.writes) c.keeper.invariant)
          some_share,
    )

pub split_seat-requires : goal.split_seat-requires
split_seat-requires c =
    let e = c.compare_exchange_with.ensures.2.0 c.args.core.now refl in (
      c.compare_exchange_with.ensures.0 ∙ (c.join_seat.ensures.0 ∙ (ap (λ k. k.board) c.keeper.view_is ∙ (ap (λ k. k.board) c.requires.0 ∙ sym c.self.view_is))),
      omega (arith, c.self.invariant),
      gives c.compare_exchange_with.new.seat.id c.compare_exchange_with.new.seat.me.0 (ap (λ m. m.0.writes) e),
    )

pub invariant_of-keeper : goal.invariant_of-keeper
invariant_of-keeper c =
    let e = c.split_seat.ensures.2 in
    let written = c.compare_exchange_with.ensures.2.0 c.args.core.now refl in
    let bare : c.compare_exchange_with.new.seat.me.1 ≡ [] = ap (λ m. m.1) written ∙ (ap (λ m. m.1) c.join_seat.ensures.2 ∙ ap (λ m. m.1) c.keeper.invariant) in
    e ∙ (λ i. (keeper_view ((sym e i).0.left) ((sym e i).0.share) ((sym e i).0.own), bare i))

pub invariant_of-front : goal.invariant_of-front
invariant_of-front c =
    let e = c.split_seat.ensures.4 in
    let written = c.compare_exchange_with.ensures.2.0 c.args.core.now refl in
    let joined : c.join_seat.new.seat.me.0.share ≡ c.keeper.inside.seat.me.0.share + c.front.inside.seat.me.0.share = ap (λ m. m.0.share) c.join_seat.ensures.2 ∙ ap (λ m. c.keeper.inside.seat.me.0.share + m.0.share) c.split_seat-moved.ensures.4 in
    let rests : c.keeper.inside.seat.me.0.share ≡ 0 = ap (λ k. k.share) c.keeper.view_is ∙ ap (λ k. k.share) c.requires.0 in
    let kept : c.split_seat.result.me.0.share ≡ c.join_seat.new.seat.me.0.share = ap (λ m. m.0.share) e ∙ ap (λ m. m.0.share) written in (
      e ∙ (λ i. (front_view ((sym e i).0.left) ((sym e i).0.share) ((sym e i).0.own), [])),
      omega (arith, c.front.invariant.1, joined, rests, kept),
      omega (arith, c.front.invariant.2, joined, rests, kept),
    )
