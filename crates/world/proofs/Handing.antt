-- What the code knows where the core refuses, and of a world that begins.
use Rattle.std.proofs.Common.{◌≡◌, ℕ, List, [], refl, sym, ap, ◌∙◌, subst, true, Option, Some, None, Err}
use Rattle.aql_packet.specs.declared.ids.AgentHandle.{AgentHandle}
use Rattle.aql_packet.specs.declared.ids.ClientId.{ClientId}
use Rattle.aql_packet.specs.declared.ids.QueueId.{QueueId}
use Rattle.kernel_check.specs.Programs.{Program}
use Rattle.policy.specs.Policy.{Declared}
use Rattle.core_model.specs.declared.event.Event.TheVariants.{Open, Take}
use Rattle.core_model.specs.declared.outcome.Outcome.TheVariants as outcome
use Rattle.core_model.specs.declared.refusal.Refusal as cores
use Rattle.core_model.specs.History.{beginning, History}
use Rattle.core_model.specs.Owed.{enters}
use Rattle.core_model.specs.Legal.{IsOpening, MeetsOrLacks}
use Rattle.ring_core.specs.Parts.{collected_packet}
use Rattle.aql_packet.specs.Ring.{is_ring_size}
use Rattle.ring_core.specs.Machine.{is_producer_count, read_index, judged_size}
use Rattle.ring_core.specs.Rule.{processor_of}
use Rattle.world.specs.declared.queue_ring.Next.{Next}
use Rattle.world.specs.declared.queue_ring.QueueRing.{QueueRing}
use Rattle.world.specs.declared.reply.Refusal.TheVariants as refusal
use Rattle.aql_packet.specs.Words.{bytes_of}
use Rattle.world.specs.InStep.{IsJoined, IsJoinedBehind}
use Rattle.world.specs.Making.{AreDecided, ring_in}
use Rattle.world.specs.Obeying.{HandsOver, MayOpen, TakesAt, next_of, next_where}
use Rattle.world.proofs.Places.{put_itself}
use Rattle.world.proofs.Entering.{due_enters}
use Rattle.world.proofs.OpeningKept.{opening_owed, size_asked}
use Rattle.world.proofs.Kept.{begins}
use Rattle.world.proofs.Obeyed.{World}

-- a hand-over that the core refuses leaves the rings as they are
pub handed_refused : (core core' : History) (rings : List QueueRing) (queue : QueueId) (r : QueueRing) (next : Next) (bytes : List ℕ) (why : cores.Refusal) → ring_in rings queue ≡ Some r → next_of r ≡ Some next → bytes ≡ bytes_of next.words
    → MeetsOrLacks (Take queue next.packet bytes) core core' (Err why) → TakesAt (ring_in rings queue) queue core rings (Err (refusal.Core why)) core' rings
handed_refused core core' rings queue r next bytes why found is filled meets =
    subst (λ o. TakesAt o queue core rings (Err (refusal.Core why)) core' rings) (sym found) (by_packet (collected_packet (processor_of r.ring.parts)) is)
  where
    by_packet : (o : Option (List ℕ)) → next_where (read_index r.ring) o ≡ Some next → HandsOver o r queue core rings (Err (refusal.Core why)) core' rings
    by_packet None e = absurd (cc)
    by_packet (Some words) e =
        let there : record { packet = record { 0 = read_index r.ring }; words = words } ≡ next = cc in (
          Err why,
          subst (λ (n : Next). MeetsOrLacks (Take queue n.packet (bytes_of n.words)) core core' (Err why)) (sym there) (subst (λ (bs : List ℕ). MeetsOrLacks (Take queue next.packet bs) core core' (Err why)) filled meets),
          refl,
          sym (put_itself rings queue r found),
        )

-- a queue that the core allows to be opened can have its ring
pub allowed_fits : (core : History) (client : ClientId) (agent : AgentHandle) (size producers : ℕ) (queue : QueueId) → MayOpen core client agent size producers queue
    → (is_ring_size size ≡ true) × (is_producer_count producers ≡ true)
allowed_fits core client agent size producers queue may =
    let asked : ℕ = judged_size size producers in
    let owing = due_enters core (Open client agent asked) (outcome.Opened queue) [] may in
    let fits : is_ring_size asked ≡ true = (opening_owed (beginning core) core.entries client agent asked (enters (outcome.Opened queue) []) (λ w x. cc) owing).0 in
    let good = size_asked size producers fits in
    (ap is_ring_size (sym good.0) ∙ fits, good.1)

-- a world begins joined
pub starts : (policy : Declared) (kernels : List Program) (capacity : ℕ) (core : History) (rings gone : List QueueRing) → IsOpening core policy kernels capacity → rings ≡ [] → gone ≡ []
    → IsJoined (World core rings gone) × AreDecided core rings
starts policy kernels capacity core rings gone opening none nothing = (
  record { first = policy; prior = []; behind = subst (IsJoinedBehind policy []) (λ i. World core (sym none i) (sym nothing i)) (begins policy kernels capacity core opening) },
  (λ queue r found. absurd (let never : None ≡ Some r = ap (λ (rs : List QueueRing). ring_in rs queue) (sym none) ∙ found in cc)),
)
