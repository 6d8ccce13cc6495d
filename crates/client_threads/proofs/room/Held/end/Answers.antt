use Rattle.std.proofs.Common.{◌≡◌, ◌∙◌, refl, sym, ap, subst}
use Rattle.std.specs.Prelude.{All}
use mathlib.Core.List.{IsPrefix}
use Rattle.client_threads.specs.Boards.{KeeperSeen, SightSeen, resting_keeper}
use Rattle.client_threads.specs.Sections.{HeldSeen}
use Rattle.client_threads.specs.Settling.{IsShown}
use Rattle.client_threads.specs.inner.Gatherings.{EndsBy}
use Rattle.client_threads.proofs.room.Held.end.Goals as goal

pub check-requires : goal.check-requires
check-requires g c = (
  c.self.invariant.0 ∙ ap (λ b. resting_keeper b c.self.inside.keeper.left) (sym c.requires.board.0),
  ap (λ (s : SightSeen). s.board) c.sight-known.ensures.1 ∙ (c.requires.board.1 ∙ sym c.requires.board.0),
)

pub returns-clause-end : goal.returns-clause-end
returns-clause-end g c =
    let opened = g.B.Room.opened in
    let left = c.self.inside.keeper.left in
    let seen = c.args.front.now.left in
    let lanes = c.args.lanes.now.items in
    let begins : IsPrefix seen left = subst (λ (t : SightSeen). IsPrefix t.left left) c.sight-known.ensures.1 c.check.ensures.begins in
    let shown : All (IsShown opened left) lanes = subst (λ (p : KeeperSeen). All (IsShown opened p.left) lanes) c.check.ensures.kept c.show_all.ensures.shown in
    subst (λ (h : HeldSeen). EndsBy opened h.left seen lanes h.core) c.self.view_is
    (record { first = c.self.invariant.3; all = c.self.invariant.1; last = c.self.invariant.2; begins = begins; shown = shown })
