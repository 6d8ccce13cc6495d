use Rattle.std.proofs.Common.{◌∷◌, [], ap, arith}
use Rattle.client_threads.proofs.Boards.{begins, gives}
use Rattle.client_threads.proofs.board.Board.new.Goals as goal

pub of_words-requires : goal.of_words-requires
of_words-requires c = begins (0 ∷ [])

pub split_seat-given-requires : goal.split_seat-given-requires
split_seat-given-requires c =
    let made = c.in_ok-table.ensures in
    (made.2, omega (arith, made.0), gives c.in_ok-table.seat.id c.in_ok-table.seat.me.0 (ap (λ m. m.0.writes) made.4))
