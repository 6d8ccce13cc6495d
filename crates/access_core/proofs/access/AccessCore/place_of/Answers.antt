-- A packet that is found is in flight, and reaches only what lies whole in a region.
use Rattle.core_model.specs.History.{beginning}
use Rattle.std.proofs.Common.{◌≡◌, Some, None, subst, true, find}
use Rattle.access_core.proofs.Seen.{seen}
use Rattle.access_core.proofs.WorkLemmas.{in-place, none-in-place, reaches-in_place, unknown-place}
use Rattle.access_core.proofs.Terms.{IsInPlace, IsSized, RefusedAt, is_place_of, lies_in_regions, queue_in, region_lengths, start_of}
use Rattle.access_core.proofs.GroupLemmas.{sized}
use Rattle.core_model.specs.declared.refusal.Refusal.TheVariants as refusal
use Rattle.access_core.proofs.access.AccessCore.place_of.Goals as goal

pub returns-in-Some-found_in-clause-found : goal.returns-in-Some-found_in-clause-found
returns-in-Some-found_in-clause-found c =
    let a = c.self.inside in
    let some : queue_in a.queues.items c.args.queue ≡ Some c.in-Some.kept.now = cc c.in-Some.ensures in
    let found = c.in-Some-found_in.ensures.found in
    subst (λ h. IsInPlace h c.args.queue c.args.packet c.in-Some-found_in.found.place) (seen c.self.view_is)
    (in-place a c.self.invariant c.args.queue c.args.packet c.in-Some.kept.now some c.in-Some-found_in.found.place found)

pub returns-in-Some-found_in-clause-within : goal.returns-in-Some-found_in-clause-within
returns-in-Some-found_in-clause-within c =
    let a = c.self.inside in
    let some : queue_in a.queues.items c.args.queue ≡ Some c.in-Some.kept.now = cc c.in-Some.ensures in
    let found = c.in-Some-found_in.ensures.found in
    subst (λ h. lies_in_regions (region_lengths (beginning h).policy) c.in-Some-found_in.found.place.packet ≡ true) (seen c.self.view_is)
    (reaches-in_place a c.self.invariant c.args.queue c.args.packet c.in-Some-found_in.found.place
    (in-place a c.self.invariant c.args.queue c.args.packet c.in-Some.kept.now some c.in-Some-found_in.found.place found))

pub returns-in-Some-found_in-clause-sized : goal.returns-in-Some-found_in-clause-sized
returns-in-Some-found_in-clause-sized c =
    let a = c.self.inside in
    let some : queue_in a.queues.items c.args.queue ≡ Some c.in-Some.kept.now = cc c.in-Some.ensures in
    let found = c.in-Some-found_in.ensures.found in
    let placed = in-place a c.self.invariant c.args.queue c.args.packet c.in-Some.kept.now some c.in-Some-found_in.found.place found in
    subst IsSized placed.packet_is (sized (start_of a) a.audit.items c.self.invariant.legal c.args.queue c.args.packet placed.flying placed.found)

pub returns-in_default-clause-why : goal.returns-in_default-clause-why
returns-in_default-clause-why c =
    let a = c.self.inside in
    let none : queue_in a.queues.items c.args.queue ≡ None = cc c.in_default.ensures in
    subst (λ h. RefusedAt h c.args.queue c.args.packet refusal.UnknownQueue) (seen c.self.view_is) (unknown-place a c.self.invariant c.args.queue c.args.packet none)

pub returns-in-None-clause-why : goal.returns-in-None-clause-why
returns-in-None-clause-why c =
    let a = c.self.inside in
    let some : queue_in a.queues.items c.args.queue ≡ Some c.in-Some.kept.now = cc c.in-Some.ensures in
    let none : find (is_place_of c.args.packet) c.in-Some.kept.now.places ≡ None = c.in-None.ensures.none in
    subst (λ h. RefusedAt h c.args.queue c.args.packet refusal.NotInFlight) (seen c.self.view_is)
    (none-in-place a c.self.invariant c.args.queue c.args.packet c.in-Some.kept.now some none)
