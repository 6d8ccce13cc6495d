-- Copies of the fields give the answers of the state behind the audit.
use Rattle.std.proofs.Common.{◌≡◌, ◌+◌, ◌<◌, ◌≤◌, ◌^◌, ◌∙◌, List, All, arith, length, map, refl, sym, ap, subst, true}
use Rattle.std.specs.List.{filter_map}
use Rattle.core_model.specs.declared.origin.Origin.{Origin}
use Rattle.core_model.specs.History.{History, begin, beginning}
use Rattle.core_model.specs.States.{state_after}
use Rattle.regions.specs.Memory.{lengths_of}
use Rattle.access_core.specs.inner.Origins.{AreInOrder, NumbersFit, packet_origin, queue_origin}
use Rattle.core_model.specs.declared.limits.TheConstants.{ALL_IN_FLIGHT}
use Rattle.access_core.proofs.FewInFlight.{few-in-flight}
use Rattle.access_core.proofs.Lying.{all-laid, are-in_order}
use Rattle.access_core.proofs.Rotating.{copied-behind, copied-kept, copy-same}
use Rattle.access_core.proofs.Seen.{seen}
use Rattle.access_core.proofs.Terms.{All-weaker, ArgumentBlock, Queue, all_blocks, are_region_lengths, region_lengths}
use Rattle.access_core.proofs.access.AccessCore.origin_behind.Goals as goal

pub packet_origins-requires-clause-few : goal.packet_origins-requires-clause-few
packet_origins-requires-clause-few c =
    let a = c.self.inside in
    let kept = c.self.invariant in
    let before = kept.before in
    let room = kept.room in
    let few = kept.few in
    subst (λ (qs : List Queue). NumbersFit (all_blocks qs)) (sym c.as_slice-2.ensures.value)
    (all-laid a kept (λ (b : ArgumentBlock). b.number < 2 ^ 63)
    (All-weaker (λ (b : ArgumentBlock). b.number < a.start.before + length a.audit.items) (λ (b : ArgumentBlock). b.number < 2 ^ 63) (λ b less. omega (arith, less, before, room, few)) kept.blocks kept.laid.before))

pub packet_origins-requires-clause-fit : goal.packet_origins-requires-clause-fit
packet_origins-requires-clause-fit c =
    let a = c.self.inside in
    let kept = c.self.invariant in
    subst (λ (qs : List Queue). (a.in_flight_count ≤ ALL_IN_FLIGHT) × ((blocks : List ArgumentBlock) × AreInOrder qs a.in_flight_count blocks)) (sym c.as_slice-2.ensures.value)
    (few-in-flight a kept, (kept.blocks, are-in_order a kept))

pub returns-clause-begins : goal.returns-clause-begins
returns-clause-begins c =
    let a = c.self.inside in
    let o : Origin = record {
      policy = c.in_ok-copy.field-0;
      grants = c.in_ok-copy-2.field-0;
      memory = c.in_ok-copy-3.field-0;
      signals = c.in_ok-copy-4.field-0;
      opened = c.self.inside.opened;
      queues = c.in_ok-queue_origins.field-0;
      packets = c.in_ok-packet_origins.field-0;
      before = c.entries_before.result + c.len.result;
    } in
    let policy_is : c.in_ok-copy.field-0 ≡ a.start.policy = c.in_ok-copy.ensures ∙ c.policy.ensures ∙ sym (ap (λ (h : History). h.origin.policy) (seen c.self.view_is)) in
    let before_is : c.entries_before.result ≡ a.start.before = c.entries_before.ensures.before ∙ sym (ap (λ (h : History). (beginning h).before) (seen c.self.view_is)) in
    let fit : are_region_lengths (region_lengths a.start.policy) ≡ true =
    subst (λ (h : History). are_region_lengths (region_lengths (beginning h).policy) ≡ true) (sym (seen c.self.view_is)) c.regions_fit.ensures in
    subst (λ (h : History). begin h.kernels o ≡ state_after (beginning h) h.entries) (seen c.self.view_is)
    (copied-behind a c.self.invariant o policy_is
    (copy-same a.grants c.in_ok-copy-2.field-0 c.in_ok-copy-2.ensures)
    c.in_ok-copy-3.ensures c.in_ok-copy-4.ensures refl
    (c.in_ok-queue_origins.ensures ∙ ap (map queue_origin) c.as_slice.ensures.value)
    (subst (λ (qs : List Queue). (blocks : List ArgumentBlock) → AreInOrder qs a.in_flight_count blocks → c.in_ok-packet_origins.field-0 ≡ filter_map (packet_origin qs) blocks) c.as_slice-2.ensures.value
    c.in_ok-packet_origins.ensures c.self.invariant.blocks (are-in_order a c.self.invariant))
    (λ i. before_is i + c.len.ensures i) fit)

pub returns-clause-kept : goal.returns-clause-kept
returns-clause-kept c =
    let policy_is : c.in_ok-copy.field-0 ≡ c.self.inside.start.policy = c.in_ok-copy.ensures ∙ c.policy.ensures ∙ sym (ap (λ (h : History). h.origin.policy) (seen c.self.view_is)) in
    copied-kept c.self.inside c.self.invariant _ policy_is c.in_ok-copy-2.ensures c.in_ok-copy-3.ensures

pub returns-clause-policy : goal.returns-clause-policy
returns-clause-policy c = c.in_ok-copy.ensures ∙ c.policy.ensures

pub returns-clause-lengths : goal.returns-clause-lengths
returns-clause-lengths c = ap lengths_of c.in_ok-copy-3.ensures ∙ c.self.invariant.lengths ∙ ap (λ (h : History). region_lengths h.origin.policy) (seen c.self.view_is)
