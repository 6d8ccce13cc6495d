use Rattle.std.proofs.Common.{rules, ◌≡◌, ◌++◌, ◌∷◌, [], length, refl, sym, ap, ◌∙◌, inl, inr}
use Rattle.std.proofs.lemmas.List.{map_push}
use Rattle.core_model.specs.declared.outcome.Taken.TheVariants as taken
use Rattle.aql_packet.specs.Layout.{Are64Bytes}
use Rattle.client_threads.specs.declared.pending.PendingPacket.{PendingPacket}
use Rattle.client_threads.specs.inner.Kept.{served_of_pass}
use Rattle.client_threads.specs.Lanes.{ids_of}
use Rattle.ring.specs.Showing.{IsShownBy}
use Rattle.client_threads.specs.Serving.{served_of}
use Rattle.client_threads.proofs.KeptLanes.{served_keeps, is_handed, known_below, known_more, known_of, served_length}
use Rattle.client_threads.proofs.Calls.{answered_meets, left_due, refused_leaves_or_lacks, waiting_leaves}
use Rattle.client_threads.proofs.Reserving.{room_got}
use Rattle.client_threads.proofs.serving.serve_shown.Goals as goal
use Rattle.client_threads.proofs.serving.serve_shown.Goals.{then-is_err-via-then-is_err, then-is_err-via-else-is_err+then-is_err-2}

pub push_reserved-requires : goal.push_reserved-requires
push_reserved-requires c =
    room_got c.reserve.result c.is_err.result _ _ c.reserve.ensures.ok c.is_err.ensures.value c.if-is_err.false

pub push_reserved-requires-in-Ok-Launched : goal.push_reserved-requires-in-Ok-Launched
push_reserved-requires-in-Ok-Launched c =
    room_got c.reserve-else-is_err.result c.is_err-else-is_err.result _ _ c.reserve-else-is_err.ensures.ok c.is_err-else-is_err.ensures.value c.if-is_err-2.false

pub push_reserved-requires-in-Ok-Denied : goal.push_reserved-requires-in-Ok-Denied
push_reserved-requires-in-Ok-Denied c =
    room_got c.reserve.result c.is_err.result _ _ c.reserve.ensures.ok c.is_err.ensures.value c.if-is_err.false

pub invariant_of-lane-in-Ok-Launched : goal.invariant_of-lane-in-Ok-Launched
invariant_of-lane-in-Ok-Launched c =
    let a = c.lane.inside in
    let kept = a.kept.items in
    let old = a.pending.items in
    let shown : IsShownBy c.args.shown a.pass = rw (← c.lane.view_is) at c.requires.shown in
    let bytes : Are64Bytes c.args.shown.bytes = record { count = search rules; below = λ place. search rules } in
    let id : c.args.shown.id.0 ≡ length (served_of_pass a.pass) = shown.1 ∙ sym (served_length 0 a.pass.part.retired) in
    let known = known_more (served_of_pass a.pass) (served_of c.args.shown) old c.pending.result (known_of a.queue a.pass kept a.handed old a.front c.lane.invariant) (ap (λ (p : PendingPacket). p.id.0) c.pending.ensures ∙ id) (ap (λ (p : PendingPacket). p.is_barrier) c.pending.ensures) in
    rw (c.push_reserved.ensures.items, c.reserve.ensures.items, c.served.ensures, c.push_reserved-in-Ok-Launched.ensures.items, c.reserve-else-is_err.ensures.items)
    (served_keeps a.queue a.pass kept a.handed old a.front c.args.ring.now c.retire.new.self c.args.shown _ (old ++ c.pending.result ∷ []) bytes c.lane.invariant shown c.retire.ensures.retired c.retire.ensures.adds c.retire.ensures.few known)

pub invariant_of-lane-in-Ok-Denied : goal.invariant_of-lane-in-Ok-Denied
invariant_of-lane-in-Ok-Denied c =
    let a = c.lane.inside in
    let kept = a.kept.items in
    let old = a.pending.items in
    let shown : IsShownBy c.args.shown a.pass = rw (← c.lane.view_is) at c.requires.shown in
    let bytes : Are64Bytes c.args.shown.bytes = record { count = search rules; below = λ place. search rules } in
    let known = known_below (served_of_pass a.pass) (served_of c.args.shown) old (known_of a.queue a.pass kept a.handed old a.front c.lane.invariant) in
    rw (c.push_reserved-in-Ok-Denied.ensures.items, c.reserve.ensures.items, c.served-in-Ok-Denied.ensures, c.reserve-else-is_err.ensures.items)
    (served_keeps a.queue a.pass kept a.handed old a.front c.args.ring.now c.retire-in-Ok-Denied.new.self c.args.shown _ old bytes c.lane.invariant shown c.retire-in-Ok-Denied.ensures.retired c.retire-in-Ok-Denied.ensures.adds c.retire-in-Ok-Denied.ensures.few known)

pub returns-in-Ok-Waiting : goal.returns-in-Ok-Waiting
returns-in-Ok-Waiting c =
    let told = rw c.in-Ok-Waiting.field-0-is at c.in-Ok-Waiting.ensures.met in
    let met = answered_meets _ _ _ _ told in
    rw (← c.lane.view_is, c.reserve.ensures.items, c.reserve-else-is_err.ensures.items)
    (refl, record { due = inr met; audit = waiting_leaves _ _ _ _ _ _ met; lane = refl })

pub returns-in-Ok-Launched : goal.returns-in-Ok-Launched
returns-in-Ok-Launched c =
    let a = c.lane.inside in
    let kept = a.kept.items in
    let old = a.pending.items in
    let shown : IsShownBy c.args.shown a.pass = rw (← c.lane.view_is) at c.requires.shown in
    let bytes : Are64Bytes c.args.shown.bytes = record { count = search rules; below = λ place. search rules } in
    let ids : ids_of (old ++ c.pending.result ∷ []) ≡ ids_of old ++ c.args.shown.id ∷ [] = map_push (λ (p : PendingPacket). p.id) old c.pending.result ∙ ap (λ (p : PendingPacket). ids_of old ++ p.id ∷ []) c.pending.ensures in
    rw (← c.lane.view_is, c.push_reserved.ensures.items, c.reserve.ensures.items, c.served.ensures, c.push_reserved-in-Ok-Launched.ensures.items, c.reserve-else-is_err.ensures.items)
    (refl, is_handed a.queue a.pass kept a.handed old a.front c.args.ring.now c.args.core.now.history c.take.new.self.history c.args.shown taken.Launched c.retire.new.self (old ++ c.pending.result ∷ []) (ids_of old ++ c.args.shown.id ∷ []) bytes shown.1 c.retire.ensures.adds ids (rw c.in-Ok-Launched.field-0-is at c.in-Ok-Launched.ensures.met) c.retire.ensures.retired)

pub returns-in-Ok-Denied : goal.returns-in-Ok-Denied
returns-in-Ok-Denied c =
    let a = c.lane.inside in
    let kept = a.kept.items in
    let old = a.pending.items in
    let shown : IsShownBy c.args.shown a.pass = rw (← c.lane.view_is) at c.requires.shown in
    let bytes : Are64Bytes c.args.shown.bytes = record { count = search rules; below = λ place. search rules } in
    rw (← c.lane.view_is, c.push_reserved-in-Ok-Denied.ensures.items, c.reserve.ensures.items, c.served-in-Ok-Denied.ensures, c.reserve-else-is_err.ensures.items)
    (is_handed a.queue a.pass kept a.handed old a.front c.args.ring.now c.args.core.now.history c.take.new.self.history c.args.shown (taken.Denied c.in-Ok-Denied.error) c.retire-in-Ok-Denied.new.self old (ids_of old) bytes shown.1 c.retire-in-Ok-Denied.ensures.adds refl (rw c.in-Ok-Denied.field-0-is at c.in-Ok-Denied.ensures.met) c.retire-in-Ok-Denied.ensures.retired)

pub invariant_of-lane-in-Err : goal.invariant_of-lane-in-Err
invariant_of-lane-in-Err c =
    rw (c.reserve.ensures.items, c.reserve-else-is_err.ensures.items) c.lane.invariant

pub invariant_of-lane-in-Ok-Waiting : goal.invariant_of-lane-in-Ok-Waiting
invariant_of-lane-in-Ok-Waiting c =
    rw (c.reserve.ensures.items, c.reserve-else-is_err.ensures.items) c.lane.invariant

pub returns-in-Err : goal.returns-in-Err
returns-in-Err c =
    rw (← c.lane.view_is, c.reserve.ensures.items, c.reserve-else-is_err.ensures.items)
    (refl, record { due = left_due _ _ _ _ c.in-Err.ensures.met; audit = refused_leaves_or_lacks _ _ _ _ c.in-Err.ensures.met; lane = refl })

pub invariant_of-lane-then-is_err-2 : goal.invariant_of-lane-then-is_err-2
invariant_of-lane-then-is_err-2 c =
    rw (c.reserve.ensures.items, c.reserve-else-is_err.ensures.items) c.lane.invariant

pub returns-then-is_err : goal.returns-then-is_err
returns-then-is_err c =
    elim c.then-is_err.branch [
      | then-is_err-via-then-is_err w ↦
          rw (w.lane-is, ← c.lane.view_is, c.reserve.ensures.items)
          (refl, record { due = inl refl; audit = refl; lane = refl })
      | then-is_err-via-else-is_err+then-is_err-2 w ↦
          rw (w.lane-is, ← c.lane.view_is, c.reserve.ensures.items, w.reserve-else-is_err.ensures.items)
          (refl, record { due = inl refl; audit = refl; lane = refl })
    ]
