use Rattle.std.proofs.Common.{◌≡◌, [], subst, sym, true}
use Rattle.replay.specs.Replays.{GoesOn, Replayed, has_place}
use Rattle.replay.specs.inner.Asking.{Asks}
use Rattle.replay.proofs.Going.{call-asked, taken}
use Rattle.replay.proofs.replay.Replay.take.Goals as goal

pub make-requires : goal.make-requires
make-requires c =
    call-asked (record { history = c.self.inside.core.history; further = c.self.inside.further }) c.args.entry.now.event c.in_ok-request.request
    (subst (λ (r : Replayed). Asks r c.args.entry.now.event c.in_ok-request.request) (sym c.self.view_is) c.in_ok-request.ensures)

pub returns : goal.returns
returns c =
    taken c.args.self.now (record { history = c.self.inside.core.history; further = c.self.inside.further }) c.make.new.core.history c.args.entry.now c.in_ok-request.request c.make.result
    (subst (GoesOn c.args.self.now []) (sym c.self.view_is) c.in_ok-make_room.ensures.goes)
    (subst (λ (r : Replayed). has_place r.history ≡ true) (sym c.self.view_is) c.in_ok-make_room.ensures.place)
    (subst (λ (r : Replayed). Asks r c.args.entry.now.event c.in_ok-request.request) (sym c.self.view_is) c.in_ok-request.ensures)
    c.make.ensures
