-- What the stop is due, by what is cached.
use Rattle.std.proofs.Common.{◌≡◌, ◌∙◌, refl, sym, true, false, Option, None, Some, is_some, arith}
use Rattle.access_core.proofs.Seen.{seen}
use Rattle.access_core.proofs.Calls.{due-by}
use Rattle.access_core.proofs.StopLemmas.{may-stop, stop-full, stop-known, stop-unknown}
use Rattle.access_core.proofs.access.AccessCore.may_stop.Goals.{else-is_none-via-then-is_none+else-is_full, else-is_none-via-else-is_none}
use Rattle.access_core.proofs.Terms.{Call, FoundPacket, Stop, due, queue_in, packet_in, refuses}
use Rattle.core_model.proofs.Room.{stop-finds}
use Rattle.access_core.proofs.Rooms.{never-due, roomy-seen}
use Rattle.core_model.specs.declared.refusal.Refusal.TheVariants as refusal
use Rattle.access_core.proofs.access.AccessCore.may_stop.Goals as goal

-- a packet is named where one was found
named : (found : Option FoundPacket) → is_some (packet_in found) ≡ is_some found
named None = refl
named (Some one) = refl

pub returns-in-None-clause-why : goal.returns-in-None-clause-why
returns-in-None-clause-why = grind (arith, stop-unknown)

pub returns-then-kept-clause-why : goal.returns-then-kept-clause-why
returns-then-kept-clause-why c =
    let some : queue_in c.self.inside.queues.items c.args.queue ≡ Some c.in-Some.kept.now = cc c.in-Some.ensures in
    due-by c.self.inside _ (seen c.self.view_is) (Call (Stop c.args.queue)) (refuses refusal.QueueDown)
    (stop-known c.self.inside c.self.invariant c.args.queue _ some ∙ (rw c.if-kept.true refl))

pub returns-then-is_full-clause-why : goal.returns-then-is_full-clause-why
returns-then-is_full-clause-why c =
    let some : queue_in c.self.inside.queues.items c.args.queue ≡ Some c.in-Some.kept.now = cc c.in-Some.ensures in
    stop-full c.self.inside c.self.invariant c.args.queue c.in-Some.kept.now _ _ (seen c.self.view_is) some c.if-kept.false c.barrier-barrier.ensures.first
    (named c.barrier-barrier.result ∙ (rw c.if-is_none.true at c.is_none.ensures)) (sym c.is_full.ensures ∙ c.if-is_full.true)

pub returns-then-is_full-clause-room : goal.returns-then-is_full-clause-room
returns-then-is_full-clause-room c = λ id some is.
    let kept : queue_in c.self.inside.queues.items c.args.queue ≡ Some c.in-Some.kept.now = cc c.in-Some.ensures in
    let full : due c.args.self.now.history (Call (Stop c.args.queue)) ≡ refuses refusal.AuditFull =
    stop-full c.self.inside c.self.invariant c.args.queue c.in-Some.kept.now _ _ (seen c.self.view_is) kept c.if-kept.false c.barrier-barrier.ensures.first
    (named c.barrier-barrier.result ∙ (rw c.if-is_none.true at c.is_none.ensures)) (sym c.is_full.ensures ∙ c.if-is_full.true) in
    never-due c.args.self.now.history (Call (Stop c.args.queue)) (stop-finds c.args.self.now.history (roomy-seen c.self.inside c.self.invariant _ (seen c.self.view_is)) c.args.queue id some) full

pub returns-clause-may : goal.returns-clause-may
returns-clause-may c =
    let some : queue_in c.self.inside.queues.items c.args.queue ≡ Some c.in-Some.kept.now = cc c.in-Some.ensures in
    elim c.else-is_none.branch [
      | else-is_none-via-then-is_none+else-is_full w ↦
          may-stop c.self.inside c.self.invariant c.args.queue _ _ true _ (seen c.self.view_is) some c.if-kept.false c.barrier-barrier.ensures.first
          (named c.barrier-barrier.result ∙ (rw w.if-is_none.true at c.is_none.ensures)) (λ e. sym w.is_full.ensures ∙ w.if-is_full.false)
      | else-is_none-via-else-is_none w ↦
          may-stop c.self.inside c.self.invariant c.args.queue _ _ false _ (seen c.self.view_is) some c.if-kept.false c.barrier-barrier.ensures.first
          (named c.barrier-barrier.result ∙ (rw w.if-is_none.false at c.is_none.ensures)) (λ e. cc)
    ]
