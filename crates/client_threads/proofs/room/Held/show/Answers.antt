use Rattle.std.proofs.Common.{◌≡◌, ◌∙◌, sym, ap, subst}
use mathlib.Core.List.{IsPrefix}
use Rattle.client_threads.specs.Boards.{SightSeen, resting_keeper}
use Rattle.client_threads.specs.Sections.{HeldSeen}
use Rattle.client_threads.specs.Settling.{IsShown}
use Rattle.client_threads.proofs.Sections.{seen_stand}
use Rattle.client_threads.proofs.room.Held.show.Goals as goal

pub check-requires : goal.check-requires
check-requires g c = (
  c.self.invariant.0 ∙ ap (λ b. resting_keeper b c.self.inside.keeper.left) (sym c.requires.0),
  ap (λ (s : SightSeen). s.board) c.sight-known.ensures.1 ∙ (c.requires.1.board_is ∙ sym c.requires.0),
)

pub returns-clause-shown : goal.returns-clause-shown
returns-clause-shown g c =
    let opened = g.B.Room.opened in
    let lane = c.args.lane.now in
    let left = c.self.inside.keeper.left in
    let begins : IsPrefix lane.front.left left = subst (λ (t : SightSeen). IsPrefix t.left left) c.sight-known.ensures.1 c.check.ensures.begins in
    let stands = seen_stand opened lane.served lane.queue.0 lane.front.left left c.self.invariant.3 c.requires.1.stands begins c.self.invariant.1 in
    subst (λ (h : HeldSeen). IsShown opened h.left lane) c.self.view_is (record { begins = begins; stands = stands })
