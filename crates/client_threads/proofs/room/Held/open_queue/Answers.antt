use Rattle.std.proofs.Common.{◌≡◌, ◌<◌, ◌∙◌, ◌++◌, ◌∷◌, [], List, map, refl, sym, ap, subst}
use mathlib.Core.List.{IsPrefix}
use Rattle.access_core.specs.Cores.{Core}
use Rattle.core_model.specs.declared.outcome.Outcome.TheVariants as outcome
use Rattle.policy.specs.Results.{map_ok}
use Rattle.client_threads.specs.Boards.{FrontSeen, KeeperSeen, SightSeen, fresh_of, resting_keeper, sight_of, with_section}
use Rattle.client_threads.specs.Desks.{seen}
use Rattle.client_threads.specs.Opening.{AreOpened, OpensQueue, before_lane, new_lane, opening_event}
use Rattle.client_threads.specs.Sections.{AllFollow, Follows, IsNext, last_of}
use Rattle.client_threads.proofs.Fronts.{prefix_trans}
use Rattle.client_threads.proofs.Opened.{grow_opened, next_is_fresh, opened_behind, opening_appends}
use Rattle.client_threads.proofs.Sections.{all_snoc, appends_follow, last_snoc, section_of}
use Rattle.client_threads.proofs.room.Held.open_queue.Goals as goal

pub check-requires : goal.check-requires
check-requires g c = (
  ap (λ (k : KeeperSeen). k) c.self.invariant.0 ∙ ap (λ b. resting_keeper b c.self.inside.keeper.left) (sym c.requires.board.0),
  ap (λ (s : SightSeen). s.board) c.sight_again-known.ensures.1 ∙ (c.requires.openings.0 ∙ sym c.requires.board.0),
)

pub write-requires : goal.write-requires
write-requires g c =
    let kept : c.check.new.keeper ≡ c.self.inside.keeper = c.check.ensures.kept in (
      kept ∙ (c.self.invariant.0 ∙ (ap (λ b. resting_keeper b c.self.inside.keeper.left) (sym c.requires.board.0) ∙ ap (λ (k : KeeperSeen). resting_keeper c.args.board.now k.left) (sym kept))),
      c.requires.board.1 ∙ sym c.requires.board.0,
    )

pub invariant_of-self : goal.invariant_of-self
invariant_of-self g c =
    let opened = g.B.Room.opened in
    let left = c.self.inside.keeper.left in
    let new = c.open_beside-opened.new.core in
    let full : c.write.new.keeper ≡ resting_keeper g.B.Room.board (left ++ new ∷ []) =
    c.write.ensures.keeper ∙ (ap (λ (k : KeeperSeen). resting_keeper c.args.board.now (k.left ++ new ∷ [])) c.check.ensures.kept ∙ ap (λ b. resting_keeper b (left ++ new ∷ [])) c.requires.board.0) in
    let inv = c.self.invariant in
    let follows : Follows c.self.inside.core.history new.history = appends_follow _ _ (opening_appends _ _ _ _ c.open_beside-opened.ensures.due) in
    let next : IsNext c.self.inside.core new = record { follows = follows; legal = c.audit-2.ensures.legal } in (
      full ∙ ap (λ (k : KeeperSeen). resting_keeper g.B.Room.board k.left) (sym full),
      subst (AllFollow opened) (sym (ap (λ (p : KeeperSeen). p.left) full)) (all_snoc opened left new inv.1 (subst (λ (k : Core). IsNext k new) (sym inv.2) next)),
      ap (λ (p : KeeperSeen). last_of opened p.left) full ∙ last_snoc opened left new,
      inv.3,
    )

pub with_lane-requires-clause-front : goal.with_lane-requires-clause-front
with_lane-requires-clause-front g c =
    let written : c.sight.new.front ≡ with_section c.args.front.now c.check.new.keeper.left c.open_beside-opened.new.core = c.sight.ensures.0 ∙ c.write.ensures.front in
    (ap (λ (f : FrontSeen). f.board) written ∙ (c.requires.board.1 ∙ sym c.requires.board.0), subst (λ n. 1 < n) (sym (ap (λ (f : FrontSeen). f.share) written)) c.requires.share)

pub returns-clause-board : goal.returns-clause-board
returns-clause-board g c =
    let written : c.sight.new.front ≡ with_section c.args.front.now c.check.new.keeper.left c.open_beside-opened.new.core = c.sight.ensures.0 ∙ c.write.ensures.front in
    c.with_lane.ensures.board ∙ (ap (λ (f : FrontSeen). f.board) written ∙ c.requires.board.1)

pub returns-clause-section : goal.returns-clause-section
returns-clause-section g c =
    let left = c.self.inside.keeper.left in
    let new = c.open_beside-opened.new.core in
    let inv = c.self.invariant in
    let kept = c.check.ensures.kept in
    let begins : IsPrefix c.args.front.now.left left = subst (λ (k : KeeperSeen). IsPrefix c.args.front.now.left k.left) kept c.write.ensures.begins in
    let follows : Follows c.self.inside.core.history new.history = appends_follow _ _ (opening_appends _ _ _ _ c.open_beside-opened.ensures.due) in
    section_of g.B.Room.opened c.args.front.now (before_lane c.with_lane.result c.with_lane.new.front) left c.self.inside.core new inv.3 inv.1 inv.2 begins c.audit.ensures.legal
    (record { follows = follows; legal = c.audit-2.ensures.legal }) (rw c.with_lane.ensures.number c.open_beside-opened.ensures.due)
    (c.with_lane.ensures.front ∙ (c.sight.ensures.0 ∙ (c.write.ensures.front ∙ ap (λ (k : KeeperSeen). with_section c.args.front.now k.left new) kept)))

pub returns-clause-opened : goal.returns-clause-opened
returns-clause-opened g c =
    c.with_lane.ensures.opened (map seen c.args.desks.now.items) (map seen c.open_beside-opened.new.desks.items) c.args.asked.size c.args.asked.producers c.open_beside-opened.ensures.opened

pub open_beside-opened-requires-clause-fresh : goal.open_beside-opened-requires-clause-fresh
open_beside-opened-requires-clause-fresh g c =
    let core = c.self.inside.core in
    let rings = map seen c.args.desks.now.items in
    let left = c.self.inside.keeper.left in
    let begins : IsPrefix c.args.openings.now.left left = subst (λ (t : SightSeen). IsPrefix t.left left) c.sight_again-known.ensures.1 c.check.ensures.begins in
    next_is_fresh core rings
    (subst (λ (k : Core). AreOpened k rings) c.self.invariant.2 (grow_opened g.B.Room.opened c.args.openings.now.left left rings begins c.self.invariant.1 c.requires.openings.1))

pub returns-clause-openings : goal.returns-clause-openings
returns-clause-openings g c =
    let opened = g.B.Room.opened in
    let left = c.self.inside.keeper.left in
    let new = c.open_beside-opened.new.core in
    let old = map seen c.args.desks.now.items in
    let inv = c.self.invariant in
    let kept = c.check.ensures.kept in
    let begins : IsPrefix c.args.openings.now.left left = subst (λ (t : SightSeen). IsPrefix t.left left) c.sight_again-known.ensures.1 c.check.ensures.begins in
    let follows : Follows c.self.inside.core.history new.history = appends_follow _ _ (opening_appends _ _ _ _ c.open_beside-opened.ensures.due) in
    let next : IsNext c.self.inside.core new = record { follows = follows; legal = c.audit-2.ensures.legal } in
    let all : AllFollow opened (left ++ new ∷ []) = all_snoc opened left new inv.1 (subst (λ (k : Core). IsNext k new) (sym inv.2) next) in
    let more : IsPrefix left (left ++ new ∷ []) = (new ∷ [], refl) in
    let before : AreOpened new old = subst (λ (k : Core). AreOpened k old) (last_snoc opened left new)
    (grow_opened opened c.args.openings.now.left (left ++ new ∷ []) old (prefix_trans c.args.openings.now.left left (left ++ new ∷ []) begins more) all c.requires.openings.1) in
    let behind : AreOpened new (map seen c.open_beside-opened.new.desks.items) =
    opened_behind (λ o. o.0) (λ o. o.1.items) (λ o its. new_lane o.0 o.2 its) new c.self.inside.core.history c.args.asked.client c.args.asked.agent _ c.args.asked.size c.args.asked.producers old (map seen c.open_beside-opened.new.desks.items)
    c.open_beside-opened.result c.args.front.now before c.open_beside-opened.ensures.due c.open_beside-opened.ensures.opened c.open_beside-opened.ensures.refused in
    let known : c.sight.result ≡ record { board = g.B.Room.board; left = left ++ new ∷ [] } =
    c.sight.ensures.1 ∙ (ap sight_of c.write.ensures.front ∙ (λ i. record { board = c.requires.board.1 i; left = (kept i).left ++ new ∷ [] })) in (
      ap (λ (p : SightSeen). p.board) known,
      subst (λ (p : SightSeen). AreOpened (last_of opened p.left) (map seen c.open_beside-opened.new.desks.items)) (sym known) (subst (λ (k : Core). AreOpened k (map seen c.open_beside-opened.new.desks.items)) (sym (last_snoc opened left new)) behind),
    )
