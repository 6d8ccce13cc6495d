-- Turns of a lane, one after another.
use Rattle.std.specs.Prelude.{◌≢◌}
use Rattle.std.proofs.Common.{◌≡◌, List, [], ◌∷◌, ◌++◌, refl, sym, ap, ◌∙◌, subst, inl, inr}
use Rattle.ring.specs.Passes.{RingSeen}
use Rattle.ring.specs.Showing.{HasPeeked}
use Rattle.ring.specs.declared.processor.Peeked.{Peeked}
use Rattle.ring.specs.declared.processor.Peeked.TheVariants as peeked
use Rattle.atomic_table.specs.Seated.{TableId}
use Rattle.core_model.specs.History.{History}
use Rattle.access_core.specs.Cores.{Core}
use Rattle.client_threads.specs.declared.advancing.Advanced.TheVariants.{Idle}
use Rattle.client_threads.specs.declared.lanes.LaneAnswer.{LaneAnswer}
use Rattle.client_threads.specs.declared.serving.ServeAnswer.{ServeAnswer}
use Rattle.client_threads.specs.declared.serving.ServeAnswer.TheVariants.{Empty}
use Rattle.client_threads.specs.Boards.{FrontSeen}
use Rattle.client_threads.specs.Lanes.{LaneSeen}
use Rattle.client_threads.specs.Rings.{IsRingOf, QueueRing}
use Rattle.client_threads.specs.Advancing.{AdvancesTo}
use Rattle.client_threads.specs.Running.{AreTurns, DoesTurn, IsBusyTurn, IsIdleTurn, IsTurn, KeepsOn, nothing_done}
use Rattle.client_threads.specs.Sections.{IsSection, last_of}
use Rattle.client_threads.specs.Serving.{ServesTo}
use Rattle.client_threads.specs.inner.Turns.{DoesFound, FoundTo, HasTurned, HasWork, IsFoundTurn, Looks, StaysOn}
use Rattle.client_threads.proofs.Handing.{empty_serves, shown_serves}

-- a section that did the one did the other
pub section_did : {Did Does : Core → Core → Type 0} (opened : Core) (seen new : FrontSeen) → ((a b : Core) → Did a b → Does a b) → IsSection opened seen new Did → IsSection opened seen new Does
section_did opened seen new so s = record { before = s.before; begins = s.begins; first = s.first; all = s.all; legal = s.legal; core = s.core; did = so _ s.core s.did; next = s.next; new_is = s.new_is }

-- what a pass found and the lane handed over, it served
found_serves : (ring : RingSeen) (old looked : LaneSeen) (found : Peeked) (before : History) (answer : ServeAnswer) (new : LaneSeen) (after : History) → Looks old looked → HasPeeked ring old.pass found looked.pass
    → FoundTo ring found looked before answer new after → ServesTo ring old before answer new after
found_serves ring old looked peeked.Empty before answer new after looks at h =
    subst (λ (a : ServeAnswer). ServesTo ring old before a new after) (sym h.0)
    (subst (λ (l : LaneSeen). ServesTo ring old before Empty l after) (sym h.1)
    (subst (λ (x : History). ServesTo ring old before Empty looked x) (sym h.2) (empty_serves ring old looked before looks at)))
found_serves ring old looked (peeked.Shown shown) before answer new after looks at h = shown_serves ring old looked before shown answer new after looks at h

-- who had something to do isn't told that nothing was done
not_nothing : (ring : RingSeen) (found : Peeked) (old mid : LaneSeen) (before between : History) (new : LaneSeen) (after : History) → HasWork found old → FoundTo ring found old before Empty mid between
    → AdvancesTo mid between Idle new after → ⊥
not_nothing ring peeked.Empty old mid before between new after work serves idle = work (ap (λ (l : LaneSeen). l.pending) (sym serves.1) ∙ idle.none)
not_nothing ring (peeked.Shown shown) old mid before between new after work serves idle = absurd serves

did_something : (ring : RingSeen) (found : Peeked) (old : LaneSeen) (before : History) (answer : LaneAnswer) (new : LaneSeen) (after : History) → HasWork found old → DoesFound ring found old before answer new after
    → answer ≢ nothing_done
did_something ring found old before answer new after work did = λ nothing. not_nothing ring found old did.mid before did.between new after work
    (subst (λ (a : LaneAnswer). FoundTo ring found old before a.served did.mid did.between) nothing did.serves)
    (subst (λ (a : LaneAnswer). AdvancesTo did.mid did.between a.advanced new after) nothing did.advances)

-- a lane that looked, and then turned with what it had found, made a turn
pub looked_then_turned : (opened : Core) (ring : RingSeen) (old looked : LaneSeen) (found : Peeked) (answer : LaneAnswer) (new : LaneSeen) → Looks old looked → HasPeeked ring old.pass found looked.pass
    → HasWork found looked → IsFoundTurn opened ring found looked answer new → IsTurn opened ring old answer new
looked_then_turned opened ring old looked found answer new looks at work h = inr (record {
  some = did_something ring found looked (last_of opened h.section.before).history answer h.left h.section.core.history work h.section.did;
  left = h.left;
  section = subst (λ (f : FrontSeen). IsSection opened f new.front (λ before after. DoesTurn ring old before.history answer h.left after.history)) (ap (λ (l : LaneSeen). l.front) looks.lane)
      (section_did opened looked.front new.front (λ a b (did : DoesFound ring found looked a.history answer h.left b.history). record {
        mid = did.mid;
        between = did.between;
        serves = found_serves ring old looked found a.history answer.served did.mid did.between looks at did.serves;
        advances = did.advances;
      }) h.section);
  new_is = h.new_is;
})

pub idle_turn : (opened : Core) (ring : RingSeen) (old new : LaneSeen) (found : Peeked) → Looks old new → HasPeeked ring old.pass found new.pass → found ≡ peeked.Empty → new.pending ≡ []
    → IsTurn opened ring old (record { served = Empty; advanced = Idle }) new
idle_turn opened ring old new found looks at empty none = inl (record {
  peeked = subst (λ (f : Peeked). HasPeeked ring old.pass f new.pass) empty at;
  none = sym (ap (λ (l : LaneSeen). l.pending) looks.lane) ∙ none;
  answer_is = refl;
  new_is = looks.lane;
})

-- ---- in a row

pub no_turn : (opened : Core) (ring : RingSeen) (lane : LaneSeen) → HasTurned opened ring lane lane
no_turn opened ring lane = record { answers = []; turns = refl }

turns_more : (opened : Core) (ring : RingSeen) (old : LaneSeen) (answers : List LaneAnswer) (mid : LaneSeen) (answer : LaneAnswer) (new : LaneSeen) → AreTurns opened ring old answers mid → IsTurn opened ring mid answer new
    → AreTurns opened ring old (answers ++ answer ∷ []) new
turns_more opened ring old [] mid answer new h turn = (new, subst (λ (l : LaneSeen). IsTurn opened ring l answer new) h turn, refl)
turns_more opened ring old (one ∷ rest) mid answer new h turn = (h.0, h.1, turns_more opened ring h.0 rest mid answer new h.2 turn)

pub one_turn_more : (opened : Core) (ring : RingSeen) (old mid : LaneSeen) (answer : LaneAnswer) (new : LaneSeen) → HasTurned opened ring old mid → IsTurn opened ring mid answer new → HasTurned opened ring old new
one_turn_more opened ring old mid answer new h turn = record { answers = h.answers ++ answer ∷ []; turns = turns_more opened ring old h.answers mid answer new h.turns turn }

-- a lane that stayed on and made turns on the ring of its queue kept on
pub turned_on : (opened : Core) (board : TableId) (rings : List QueueRing) (ring : RingSeen) (old new : LaneSeen) → StaysOn board rings old new → IsRingOf rings old.queue.0 ring → HasTurned opened ring old new → KeepsOn opened board rings old new
turned_on opened board rings ring old new on is turned = record { on = on.on; lane = on.lane; ring = ring; ring_is = is; answers = turned.answers; turns = turned.turns }
