use Rattle.std.proofs.Common.{◌≡◌, ◌∙◌, ◌++◌, ◌∷◌, [], List, refl, sym, ap, subst}
use mathlib.Core.List.{IsPrefix}
use Rattle.access_core.specs.Cores.{Core}
use Rattle.client_threads.specs.Boards.{FrontSeen, KeeperSeen, resting_keeper, with_section}
use Rattle.client_threads.specs.Lanes.{LaneSeen}
use Rattle.client_threads.specs.Running.{GoesOn}
use Rattle.client_threads.specs.Sections.{AllFollow, Follows, IsNext, IsSection, last_of}
use Rattle.client_threads.specs.inner.Turns.{DoesFound, ServesIn, StandsIn}
use Rattle.client_threads.proofs.Sections.{all_snoc, appends_follow, last_snoc, section_of}
use Rattle.client_threads.proofs.Turning.{served_appends, turn_on, turn_stands}
use Rattle.client_threads.proofs.room.Held.turn.Goals as goal

pub invariant_of-self : goal.invariant_of-self
invariant_of-self g c =
    let opened = g.B.Room.opened in
    let left = c.self.inside.keeper.left in
    let new = c.do_turn-done.new.core in
    let full : c.leave.new.keeper ≡ resting_keeper g.B.Room.board (left ++ new ∷ []) = c.leave.ensures.keeper ∙ ap (λ b. resting_keeper b (left ++ new ∷ [])) c.requires.board.0 in
    let inv = c.self.invariant in
    let follows : Follows c.self.inside.core.history new.history = appends_follow _ _ (served_appends _ _ _ _ c.do_turn-done.ensures.serves) in
    let next : IsNext c.self.inside.core new = record { follows = follows; legal = c.audit-2.ensures.legal } in (
      full ∙ ap (λ (k : KeeperSeen). resting_keeper g.B.Room.board k.left) (sym full),
      subst (AllFollow opened) (sym (ap (λ (p : KeeperSeen). p.left) full)) (all_snoc opened left new inv.1 (subst (λ (k : Core). IsNext k new) (sym inv.2) next)),
      ap (λ (p : KeeperSeen). last_of opened p.left) full ∙ last_snoc opened left new,
      inv.3,
    )

pub returns-clause-on : goal.returns-clause-on
returns-clause-on g c =
    let new = c.do_turn-done.new.core in
    let served : ServesIn c.args.lane.now c.self.inside.core.history c.do_turn-done.new.lane new.history = c.do_turn-done.ensures.serves in
    let front : FrontSeen = with_section c.do_turn-done.new.lane.front c.self.inside.keeper.left new in
    subst (GoesOn c.args.lane.now) (sym c.leave.ensures.lane) (turn_on c.args.lane.now c.do_turn-done.new.lane front c.self.inside.core.history new.history served (ap (λ (f : FrontSeen). f.share) served.front))

pub returns-clause-board : goal.returns-clause-board
returns-clause-board g c = ap (λ (l : LaneSeen). l.front.board) c.leave.ensures.lane ∙ (ap (λ (f : FrontSeen). f.board) c.do_turn-done.ensures.serves.front ∙ c.requires.board.1)

pub returns-clause-stands : goal.returns-clause-stands
returns-clause-stands g c =
    let left = c.self.inside.keeper.left in
    let new = c.do_turn-done.new.core in
    let served : ServesIn c.args.lane.now c.self.inside.core.history c.do_turn-done.new.lane new.history = c.do_turn-done.ensures.serves in
    let begins : IsPrefix c.args.lane.now.front.left left = subst (λ (f : FrontSeen). IsPrefix f.left left) served.front c.leave.ensures.begins in
    subst StandsIn (sym c.leave.ensures.lane)
    (turn_stands g.B.Room.opened left c.self.inside.core new c.args.lane.now c.do_turn-done.new.lane (with_section c.do_turn-done.new.lane.front left new) c.self.invariant.3 c.self.invariant.1 c.self.invariant.2 begins c.requires.stands served refl)

pub returns-clause-turn : goal.returns-clause-turn
returns-clause-turn g c =
    let opened = g.B.Room.opened in
    let left = c.self.inside.keeper.left in
    let new = c.do_turn-done.new.core in
    let lane : LaneSeen = c.do_turn-done.new.lane in
    let served : ServesIn c.args.lane.now c.self.inside.core.history lane new.history = c.do_turn-done.ensures.serves in
    let begins : IsPrefix c.args.lane.now.front.left left = subst (λ (f : FrontSeen). IsPrefix f.left left) served.front c.leave.ensures.begins in
    let follows : Follows c.self.inside.core.history new.history = appends_follow _ _ (served_appends _ _ _ _ served) in
    let front : c.leave.new.self.front ≡ with_section c.args.lane.now.front left new = ap (λ (l : LaneSeen). l.front) c.leave.ensures.lane ∙ ap (λ (f : FrontSeen). with_section f left new) served.front in
    record {
      left = lane;
      section = section_of opened c.args.lane.now.front c.leave.new.self.front left c.self.inside.core new c.self.invariant.3 c.self.invariant.1 c.self.invariant.2 begins c.audit.ensures.legal
          (record { follows = follows; legal = c.audit-2.ensures.legal }) c.do_turn-done.ensures.does front;
      new_is = c.leave.ensures.lane ∙ ap (λ (f : FrontSeen). record lane { front = f }) (sym (ap (λ (l : LaneSeen). l.front) c.leave.ensures.lane));
    }
