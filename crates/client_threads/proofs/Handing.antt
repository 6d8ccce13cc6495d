-- What a lane's pass was shown, and what handing it over comes to.
use Rattle.std.proofs.Common.{◌≡◌, refl, sym, ap, ◌∙◌, subst}
use Rattle.std.specs.Prelude.{Err, Ok}
use Rattle.core_model.specs.History.{History}
use Rattle.core_model.specs.declared.outcome.Taken.{Taken}
use Rattle.core_model.specs.declared.outcome.Taken.TheVariants as taken
use Rattle.core_model.specs.declared.refusal.Refusal.{Refusal}
use Rattle.ring.specs.Passes.{RingSeen, ProcessorSeen}
use Rattle.ring.specs.Showing.{HasPeeked, IsShownBy}
use Rattle.ring.specs.declared.processor.Shown.{Shown}
use Rattle.ring.specs.declared.processor.Peeked.{Peeked}
use Rattle.ring.specs.declared.processor.Peeked.TheVariants as peeked
use Rattle.client_threads.specs.declared.serving.ServeAnswer.{ServeAnswer}
use Rattle.client_threads.specs.declared.serving.ServeAnswer.TheVariants.{Empty, Launched, Denied, Waiting, Refused}
use Rattle.client_threads.specs.Lanes.{LaneSeen}
use Rattle.client_threads.specs.Serving.{IsServed, ServesTo}
use Rattle.client_threads.specs.inner.Turns.{HandsTo, IsFoundBy, IsHanded, Looks}

-- what a pass finds, it has collected
pub found_by : (ring : RingSeen) (old new : ProcessorSeen) (found : Peeked) → HasPeeked ring old found new → IsFoundBy found new
found_by ring old new peeked.Empty h = tt
found_by ring old new (peeked.Shown shown) h = h.3

pub looked_table : (ring : RingSeen) (old new : LaneSeen) → Looks old new → old.pass.table ≡ ring.table → new.pass.table ≡ ring.table
looked_table ring old new looks of = looks.table ∙ of

-- a pass that finds no packet serves none
pub empty_serves : (ring : RingSeen) (old new : LaneSeen) (history : History) → Looks old new → HasPeeked ring old.pass peeked.Empty new.pass → ServesTo ring old history Empty new history
empty_serves ring old new history looks h = record { peeked = h; audit = refl; lane = looks.lane }

module _ (ring : RingSeen) (old : LaneSeen) (pass : ProcessorSeen) (before : History) (shown : Shown) (looked : HasPeeked ring old.pass (peeked.Shown shown) pass) where
  abbrev mid : LaneSeen
  mid = record old { pass = pass }

  serves : (answer : ServeAnswer) (new : LaneSeen) (after : History) → HandsTo ring shown mid before answer new after → ServesTo ring old before answer new after
  serves Empty new after h = absurd h
  serves (Launched id) new after h = (shown, h.0, record { mid = pass; peeked = looked; taken = h.1.taken; retired = h.1.retired; lane = h.1.lane })
  serves (Denied error) new after h = (shown, record { mid = pass; peeked = looked; taken = h.taken; retired = h.retired; lane = h.lane })
  serves (Waiting id cause) new after h = record { shown = shown; id_is = h.0; peeked = subst (λ (l : LaneSeen). HasPeeked ring old.pass (peeked.Shown shown) l.pass) (sym h.1.lane) looked; due = h.1.due; audit = h.1.audit; lane = h.1.lane ∙ ap (λ (l : LaneSeen). record old { pass = l.pass }) (sym h.1.lane) }
  serves (Refused id why) new after h = record { shown = shown; id_is = h.0; peeked = subst (λ (l : LaneSeen). HasPeeked ring old.pass (peeked.Shown shown) l.pass) (sym h.1.lane) looked; due = h.1.due; audit = h.1.audit; lane = h.1.lane ∙ ap (λ (l : LaneSeen). record old { pass = l.pass }) (sym h.1.lane) }

-- a pass that finds one, and the lane hands it over: the packet is served
pub shown_serves : (ring : RingSeen) (old mid : LaneSeen) (before : History) (shown : Shown) (answer : ServeAnswer) (new : LaneSeen) (after : History) → Looks old mid → HasPeeked ring old.pass (peeked.Shown shown) mid.pass
    → HandsTo ring shown mid before answer new after → ServesTo ring old before answer new after
shown_serves ring old mid before shown answer new after looks looked h =
    serves ring old mid.pass before shown looked answer new after (subst (λ (l : LaneSeen). HandsTo ring shown l before answer new after) looks.lane h)
