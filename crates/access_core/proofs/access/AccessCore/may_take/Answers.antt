-- What is decided is what is due, by what is cached.
use Rattle.core_model.specs.History.{beginning}
use Rattle.std.proofs.Common.{◌≡◌, refl, ◌∙◌, true, false, Some, None, [], length, rules, ap, subst, nat_lt, ◌||◌, ◌==◌, map, option_map, arith}
use Rattle.packet_processor.proofs.QueueingLemmas.{launching-waits, launching-goes}
use Rattle.access_core.proofs.Seen.{seen}
use Rattle.access_core.proofs.Calls.{due-by}
use Rattle.access_core.proofs.TakeLemmas.{judged-inside, owner-kept, room-launched, take-unknown, take-known, within-launched, takes-next}
use Rattle.access_core.proofs.Terms.{Denied, History, Launched, Place, Take, TakesNext, Waiting, answers, barrier_bit, cached_opening, enters}
use Rattle.access_core.proofs.Terms.{error_without_place, start_of, lies_in_regions, cause_to_wait, queue_in, owner, refuses, region_lengths}
use Rattle.core_model.specs.declared.outcome.Outcome.TheVariants as outcome
use Rattle.core_model.specs.declared.refusal.Refusal.TheVariants as refusal
use Rattle.access_core.proofs.access.AccessCore.may_take.Goals as goal

pub returns-in-None-clause-why : goal.returns-in-None-clause-why
returns-in-None-clause-why = grind (arith, take-unknown)

pub returns-then-is_down-clause-why : goal.returns-then-is_down-clause-why
returns-then-is_down-clause-why c =
    let some : queue_in c.self.inside.queues.items c.args.queue ≡ Some c.in-Some.kept.now = cc c.in-Some.ensures in
    let down : (nat_lt 0 (length c.in-Some.kept.now.errors.items) || c.in-Some.kept.now.stopped) ≡ true = cc in
    due-by c.self.inside _ (seen c.self.view_is) (Take c.args.queue c.args.packet c.args.bytes.now) (refuses refusal.QueueDown)
    (take-known c.self.inside c.self.invariant _ _ _ _ some ∙ (rw down refl))

pub returns-then-packet-kept-clause-why : goal.returns-then-packet-kept-clause-why
returns-then-packet-kept-clause-why c =
    let some : queue_in c.self.inside.queues.items c.args.queue ≡ Some c.in-Some.kept.now = cc c.in-Some.ensures in
    let down : (nat_lt 0 (length c.in-Some.kept.now.errors.items) || c.in-Some.kept.now.stopped) ≡ false = cc in
    let other : (c.args.packet.0 == c.in-Some.kept.now.next) ≡ false = search rules in
    due-by c.self.inside _ (seen c.self.view_is) (Take c.args.queue c.args.packet c.args.bytes.now) (refuses (refusal.OutOfStep c.in-Some.kept.now.next))
    (take-known c.self.inside c.self.invariant _ _ _ _ some ∙ (rw (down, other) refl))

pub returns-in-Waiting-clause-may : goal.returns-in-Waiting-clause-may
returns-in-Waiting-clause-may c =
    let some : queue_in c.self.inside.queues.items c.args.queue ≡ Some c.in-Some.kept.now = cc c.in-Some.ensures in
    let down : (nat_lt 0 (length c.in-Some.kept.now.errors.items) || c.in-Some.kept.now.stopped) ≡ false = cc in
    let next : (c.args.packet.0 == c.in-Some.kept.now.next) ≡ true = search rules in
    let told : cause_to_wait (map (λ (p : Place). p.packet) c.in-Some.kept.now.places) c.header.result.barrier ≡ Some c.in-Waiting.cause =
    launching-waits _ c.in-Waiting.cause c.in-Waiting.ensures in
    let waits : cause_to_wait (map (λ (p : Place). p.packet) c.in-Some.kept.now.places) (barrier_bit c.args.bytes.now) ≡ Some c.in-Waiting.cause =
    cc (told, c.header.ensures) in
    due-by c.self.inside _ (seen c.self.view_is) (Take c.args.queue c.args.packet c.args.bytes.now) (answers (outcome.Taken (Waiting c.in-Waiting.cause)))
    (take-known c.self.inside c.self.invariant _ _ _ _ some ∙ (rw (down, next, waits) refl))

pub returns-then-is_full_for_launch-clause-why : goal.returns-then-is_full_for_launch-clause-why
returns-then-is_full_for_launch-clause-why c =
    let some : queue_in c.self.inside.queues.items c.args.queue ≡ Some c.in-Some.kept.now = cc c.in-Some.ensures in
    let down : (nat_lt 0 (length c.in-Some.kept.now.errors.items) || c.in-Some.kept.now.stopped) ≡ false = cc in
    let next : (c.args.packet.0 == c.in-Some.kept.now.next) ≡ true = search rules in
    let waits : cause_to_wait (map (λ (p : Place). p.packet) c.in-Some.kept.now.places) (barrier_bit c.args.bytes.now) ≡ None =
    cc (launching-goes _ c.in-Go.ensures, c.header.ensures) in
    due-by c.self.inside _ (seen c.self.view_is) (Take c.args.queue c.args.packet c.args.bytes.now) (enters (outcome.Taken Launched) [])
    (take-known c.self.inside c.self.invariant _ _ _ _ some ∙ (rw
    (down, next, waits, judged-inside c.self.inside _ (seen c.self.view_is) c.in-Some.kept.now c.args.bytes.now None c.in-Launch.ensures.1) refl))
    ∙ (rw (room-launched _ c.args.queue c.args.packet _ _ c.in-Launch.ensures.0, ← c.is_full_for_launch.ensures, c.if-is_full_for_launch.true) refl)

pub returns-then-is_full-clause-why : goal.returns-then-is_full-clause-why
returns-then-is_full-clause-why c =
    let some : queue_in c.self.inside.queues.items c.args.queue ≡ Some c.in-Some.kept.now = cc c.in-Some.ensures in
    let down : (nat_lt 0 (length c.in-Some.kept.now.errors.items) || c.in-Some.kept.now.stopped) ≡ false = cc in
    let next : (c.args.packet.0 == c.in-Some.kept.now.next) ≡ true = search rules in
    let waits : cause_to_wait (map (λ (p : Place). p.packet) c.in-Some.kept.now.places) (barrier_bit c.args.bytes.now) ≡ None =
    cc (launching-goes _ c.in-Go.ensures, c.header.ensures) in
    due-by c.self.inside _ (seen c.self.view_is) (Take c.args.queue c.args.packet c.args.bytes.now)
    (enters (outcome.Taken (Denied (error_without_place c.args.queue c.args.packet.0 c.in-Deny.rule))) [])
    (take-known c.self.inside c.self.invariant _ _ _ _ some ∙ (rw
    (down, next, waits, judged-inside c.self.inside _ (seen c.self.view_is) c.in-Some.kept.now c.args.bytes.now (Some c.in-Deny.rule) c.in-Deny.ensures) refl))
    ∙ (rw (← c.is_full.ensures, c.if-is_full.true) refl)

pub returns-else-is_full_for_launch-clause-may : goal.returns-else-is_full_for_launch-clause-may
returns-else-is_full_for_launch-clause-may c =
    let some : queue_in c.self.inside.queues.items c.args.queue ≡ Some c.in-Some.kept.now = cc c.in-Some.ensures in
    let down : (nat_lt 0 (length c.in-Some.kept.now.errors.items) || c.in-Some.kept.now.stopped) ≡ false = cc in
    let next : (c.args.packet.0 == c.in-Some.kept.now.next) ≡ true = search rules in
    let waits : cause_to_wait (map (λ (p : Place). p.packet) c.in-Some.kept.now.places) (barrier_bit c.args.bytes.now) ≡ None =
    cc (launching-goes _ c.in-Go.ensures, c.header.ensures) in
    let same : cached_opening c.in-Some.kept.now ≡ record { client = c.in-Some.kept.now.client; agent = c.in-Launch.asked.agent } =
    rw c.in-Launch.ensures.2 refl in (
      due-by c.self.inside _ (seen c.self.view_is) (Take c.args.queue c.args.packet c.args.bytes.now) (enters (outcome.Taken Launched) [])
          (take-known c.self.inside c.self.invariant _ _ _ _ some ∙ (rw
          (down, next, waits, judged-inside c.self.inside _ (seen c.self.view_is) c.in-Some.kept.now c.args.bytes.now None c.in-Launch.ensures.1) refl))
          ∙ (rw (room-launched _ c.args.queue c.args.packet _ _ c.in-Launch.ensures.0, ← c.is_full_for_launch.ensures, c.if-is_full_for_launch.false) refl),
      c.in-Launch.ensures.0,
      subst (λ (h : History). lies_in_regions (region_lengths (beginning h).policy) c.in-Launch.asked.packet ≡ true) (seen c.self.view_is)
          (within-launched (start_of c.self.inside) c.self.inside.audit.items (cached_opening c.in-Some.kept.now) c.args.bytes.now c.in-Launch.asked.packet c.in-Launch.ensures.0
          (judged-inside c.self.inside _ (seen c.self.view_is) c.in-Some.kept.now c.args.bytes.now None c.in-Launch.ensures.1)),
      subst (λ (h : History). TakesNext h c.args.queue) (seen c.self.view_is) (takes-next c.self.inside c.self.invariant _ _ _ some down waits),
      subst (λ (h : History). owner (beginning h) h.entries c.args.queue ≡ Some (cached_opening c.in-Some.kept.now)) (seen c.self.view_is)
          (owner-kept c.self.inside c.args.queue c.self.invariant ∙ ap (option_map cached_opening) some) ∙ ap Some same,
    )

pub returns-else-is_full-clause-may : goal.returns-else-is_full-clause-may
returns-else-is_full-clause-may c =
    let some : queue_in c.self.inside.queues.items c.args.queue ≡ Some c.in-Some.kept.now = cc c.in-Some.ensures in
    let down : (nat_lt 0 (length c.in-Some.kept.now.errors.items) || c.in-Some.kept.now.stopped) ≡ false = cc in
    let next : (c.args.packet.0 == c.in-Some.kept.now.next) ≡ true = search rules in
    let waits : cause_to_wait (map (λ (p : Place). p.packet) c.in-Some.kept.now.places) (barrier_bit c.args.bytes.now) ≡ None =
    cc (launching-goes _ c.in-Go.ensures, c.header.ensures) in (
      due-by c.self.inside _ (seen c.self.view_is) (Take c.args.queue c.args.packet c.args.bytes.now)
          (enters (outcome.Taken (Denied (error_without_place c.args.queue c.args.packet.0 c.in-Deny.rule))) [])
          (take-known c.self.inside c.self.invariant _ _ _ _ some ∙ (rw
          (down, next, waits, judged-inside c.self.inside _ (seen c.self.view_is) c.in-Some.kept.now c.args.bytes.now (Some c.in-Deny.rule) c.in-Deny.ensures) refl))
          ∙ (rw (← c.is_full.ensures, c.if-is_full.false) refl),
      subst (λ (h : History). TakesNext h c.args.queue) (seen c.self.view_is) (takes-next c.self.inside c.self.invariant _ _ _ some down waits),
    )
