use Rattle.std.proofs.Common.{◌≡◌, ◌∙◌, ◌++◌, ◌∷◌, [], refl, sym, ap, subst}
use Rattle.access_core.specs.Cores.{Core}
use Rattle.client_threads.specs.Boards.{KeeperSeen, resting_keeper}
use Rattle.client_threads.specs.Sections.{AllFollow, Follows, IsNext, last_of}
use Rattle.client_threads.proofs.Sections.{all_snoc, last_snoc, section_of}
use Rattle.client_threads.proofs.room.Held.section.Goals as goal

pub invariant_of-self : goal.invariant_of-self
invariant_of-self g c =
    let opened = g.B.Room.opened in
    let left = c.self.inside.keeper.left in
    let new = c.f-answer.new.arg2 in
    let full : c.write.new.keeper ≡ resting_keeper g.B.Room.board (left ++ new ∷ []) = c.write.ensures.keeper ∙ ap (λ b. resting_keeper b (left ++ new ∷ [])) c.requires.board.0 in
    let inv = c.self.invariant in
    let follows : Follows c.self.inside.core.history new.history = c.requires.continues _ _ _ (record { shown = _; shows = refl; left = _; met = c.f-answer.ensures; leaves = refl }) in
    let next : IsNext c.self.inside.core new = record { follows = follows; legal = c.audit-2.ensures.legal } in (
      full ∙ ap (λ (k : KeeperSeen). resting_keeper g.B.Room.board k.left) (sym full),
      subst (AllFollow opened) (sym (ap (λ (p : KeeperSeen). p.left) full)) (all_snoc opened left new inv.1 (subst (λ (k : Core). IsNext k new) (sym inv.2) next)),
      ap (λ (p : KeeperSeen). last_of opened p.left) full ∙ last_snoc opened left new,
      inv.3,
    )

pub returns : goal.returns
returns g c =
    let left = c.self.inside.keeper.left in
    let new = c.f-answer.new.arg2 in
    let inv = c.self.invariant in
    let follows : Follows c.self.inside.core.history new.history = c.requires.continues _ _ _ (record { shown = _; shows = refl; left = _; met = c.f-answer.ensures; leaves = refl }) in
    record {
      section = section_of g.B.Room.opened c.args.front.now c.write.new.front left c.self.inside.core new inv.3 inv.1 inv.2 c.write.ensures.begins c.audit.ensures.legal
          (record { follows = follows; legal = c.audit-2.ensures.legal })
          (record { shown = _; shows = refl; left = _; met = c.f-answer.ensures; leaves = refl })
          c.write.ensures.front;
    }
