-- What the history begins from went on in place, and tells the same of the state behind the audit.
use Rattle.std.proofs.Common.{◌≡◌, ◌+◌, ◌<◌, ◌≤◌, ◌^◌, ◌∙◌, List, Ok, All, arith, length, map, refl, sym, ap, subst, true, false}
use Rattle.core_model.specs.declared.entry.Entry.{Entry}
use Rattle.core_model.specs.declared.limits.TheConstants.{QUEUES}
use Rattle.core_model.specs.declared.origin.Origin.{Origin}
use Rattle.core_model.specs.History.{History, beginning}
use Rattle.core_model.specs.Rotation.{Truncates, lies_too_far}
use Rattle.sequences.specs.Room.{Roomy}
use Rattle.access_core.specs.inner.MovingOn.{MayMove, MovesOn}
use Rattle.access_core.specs.inner.Origins.{NumbersFit, queue_origin}
use Rattle.access_core.proofs.Lying.{all-laid}
use Rattle.access_core.proofs.Seen.{seen}
use Rattle.access_core.proofs.Terms.{All-weaker, ArgumentBlock, Core, IsSound, Queue, all_blocks, are_region_lengths, history_of, region_lengths, table_places}
use Rattle.access_core.proofs.Truncated.{left-cached, left-truncated, may-move, tells-anew}
use Rattle.access_core.proofs.access.AccessCore.truncate.Goals as goal

pub go_on-requires : goal.go_on-requires
go_on-requires c =
    let a = c.self.inside in
    let fit : are_region_lengths (region_lengths a.start.policy) ≡ true =
    subst (λ (h : History). are_region_lengths (region_lengths (beginning h).policy) ≡ true) (sym (seen c.self.view_is)) c.regions_fit.ensures in
    subst (λ (o : Origin). MayMove o c.replace-entries.result.items) (sym c.as_mut-start.ensures.value)
    (subst (λ (list : Roomy Entry). MayMove a.start list.items) (sym c.replace-entries.ensures.value) (may-move a c.self.invariant fit))

pub tell_queues-requires-clause-few : goal.tell_queues-requires-clause-few
tell_queues-requires-clause-few c = subst (λ (qs : List Queue). length qs ≤ QUEUES) (sym c.as_slice.ensures.value) c.self.invariant.few_queues

pub tell_queues-requires-clause-sound : goal.tell_queues-requires-clause-sound
tell_queues-requires-clause-sound c = subst (λ (qs : List Queue). All IsSound qs) (sym c.as_slice.ensures.value) c.self.invariant.sound

pub tell_packets-requires-clause-few : goal.tell_packets-requires-clause-few
tell_packets-requires-clause-few c =
    let a = c.self.inside in
    let kept = c.self.invariant in
    let before = kept.before in
    let room = kept.room in
    let few = kept.few in
    subst (λ (qs : List Queue). NumbersFit (all_blocks qs)) (sym c.as_slice-2.ensures.value)
    (all-laid a kept (λ (b : ArgumentBlock). b.number < 2 ^ 63)
    (All-weaker (λ (b : ArgumentBlock). b.number < a.start.before + length a.audit.items) (λ (b : ArgumentBlock). b.number < 2 ^ 63) (λ b less. omega (arith, less, before, room, few)) kept.blocks kept.laid.before))

pub tell_packets-requires-clause-ready : goal.tell_packets-requires-clause-ready
tell_packets-requires-clause-ready c =
    let a = c.self.inside in
    let fit : are_region_lengths (region_lengths a.start.policy) ≡ true =
    subst (λ (h : History). are_region_lengths (region_lengths (beginning h).policy) ≡ true) (sym (seen c.self.view_is)) c.regions_fit.ensures in
    let moves : MovesOn a.start a.audit.items c.go_on.new.start =
    subst (λ (o : Origin). MovesOn o a.audit.items c.go_on.new.start) c.as_mut-start.ensures.value
    (subst (λ (list : Roomy Entry). MovesOn c.as_mut-start.result.now list.items c.go_on.new.start) c.replace-entries.ensures.value c.go_on.ensures.moved) in
    (c.self.invariant.blocks, tells-anew a c.self.invariant fit c.go_on.new.start moves c.as_slice-2.result.now c.as_slice-2.ensures.value)

pub invariant_of-self : goal.invariant_of-self
invariant_of-self c =
    let a = c.self.inside in
    let fit : are_region_lengths (region_lengths a.start.policy) ≡ true =
    subst (λ (h : History). are_region_lengths (region_lengths (beginning h).policy) ≡ true) (sym (seen c.self.view_is)) c.regions_fit.ensures in
    let near : lies_too_far (history_of a) ≡ false = ap lies_too_far (seen c.self.view_is) ∙ sym c.lies_too_far.ensures ∙ c.if-lies_too_far.false in
    let number_is : c.entries_before.result + c.len.result ≡ a.start.before + length a.audit.items =
    (λ i. (c.entries_before.ensures.before ∙ sym (ap (λ (h : History). (beginning h).before) (seen c.self.view_is))) i + c.len.ensures i) in
    left-cached a c.self.invariant fit near c.as_mut-start.result.now c.as_mut-start.ensures.value c.replace-entries.result c.replace-entries.ensures.value c.go_on.new.start c.go_on.ensures.moved
    c.tell_queues.new.origins (c.tell_queues.ensures ∙ ap (map queue_origin) c.as_slice.ensures.value) c.as_slice-2.result.now c.as_slice-2.ensures.value
    c.tell_packets.new.origins c.tell_packets.ensures.told (c.entries_before.result + c.len.result) number_is c.go_on.result c.go_on.ensures.empty
    c.tell_packets.new.fresh c.tell_packets.ensures.spent c.go_on.ensures.room

pub returns-clause-truncated : goal.returns-clause-truncated
returns-clause-truncated c =
    let a = c.self.inside in
    let fit : are_region_lengths (region_lengths a.start.policy) ≡ true =
    subst (λ (h : History). are_region_lengths (region_lengths (beginning h).policy) ≡ true) (sym (seen c.self.view_is)) c.regions_fit.ensures in
    let near : lies_too_far (history_of a) ≡ false = ap lies_too_far (seen c.self.view_is) ∙ sym c.lies_too_far.ensures ∙ c.if-lies_too_far.false in
    let number_is : c.entries_before.result + c.len.result ≡ a.start.before + length a.audit.items =
    (λ i. (c.entries_before.ensures.before ∙ sym (ap (λ (h : History). (beginning h).before) (seen c.self.view_is))) i + c.len.ensures i) in
    let new : Origin = record c.go_on.new.start { opened = a.opened; queues = c.tell_queues.new.origins; packets = c.tell_packets.new.origins; before = c.entries_before.result + c.len.result } in
    subst (λ (h : History). Truncates h (Ok tt) (history_of (record a { start = new; audit = c.go_on.result }))) (seen c.self.view_is)
    (left-truncated a c.self.invariant fit near c.as_mut-start.result.now c.as_mut-start.ensures.value c.replace-entries.result c.replace-entries.ensures.value c.go_on.new.start c.go_on.ensures.moved
    c.tell_queues.new.origins (c.tell_queues.ensures ∙ ap (map queue_origin) c.as_slice.ensures.value) c.as_slice-2.result.now c.as_slice-2.ensures.value
    c.tell_packets.new.origins c.tell_packets.ensures.told (c.entries_before.result + c.len.result) number_is c.go_on.result c.go_on.ensures.empty)

pub returns-clause-places : goal.returns-clause-places
returns-clause-places c =
    let a = c.self.inside in
    let room : c.go_on.result.room ≡ length a.audit.items + a.audit.room = c.go_on.ensures.room ∙ ap (λ (list : Roomy Entry). length list.items + list.room) c.replace-entries.ensures.value in
    let none : length c.go_on.result.items ≡ 0 = ap length c.go_on.ensures.empty in
    let as_many : length c.go_on.result.items + c.go_on.result.room ≡ length a.audit.items + a.audit.room = omega (arith, none, room) in
    (λ i. record (table_places a.kernels a.segments a.queues a.grants a.spare a.audit) { audit_places = as_many i }) ∙ ap (λ (core : Core). core.places) c.self.view_is
