-- What was published through the ends of a stage is what is planned.
use Rattle.std.proofs.Common.{◌≡◌, ℕ, zero, suc, ◌+◌, ◌<◌, List, [], ◌∷◌, ◌++◌, length, map, refl, sym, ap, ◌∙◌, subst, arith}
use Rattle.std.specs.Prelude.{◌≤◌, All, Option, Some, None, slice_index_or}
use Rattle.std.proofs.lemmas.List.Elements.{All-append, All-push}
use Rattle.std.proofs.lemmas.List.{map-append}
use Rattle.atomic_table.specs.Seated.{TableId}
use Rattle.aql_packet.specs.declared.ids.QueueId.{QueueId}
use Rattle.ring.specs.Dealt.{dealt, new_producer_pass}
use Rattle.ring.specs.Bytes.{words_of}
use Rattle.ring_core.specs.declared.access.Access.{Access}
use Rattle.client_threads.specs.declared.client_end.ClientEnd.{ClientEnd}
use Rattle.client_threads.specs.Boards.{FrontSeen}
use Rattle.client_threads.specs.Lanes.{LaneSeen}
use Rattle.client_threads.specs.Opening.{IsOpened, as_end}
use Rattle.client_threads.specs.Rings.{QueueRing}
use Rattle.threads_load.specs.declared.plan.PlannedQueue.{PlannedQueue}
use Rattle.threads_load.specs.Publications.{AreOfWords, EachProduces, IsPlannedEnd, IsPlannedPass, IsUnused, Produces, PublishesPlanned, accesses, planned_at, reserved}
use Rattle.threads_load.specs.Stages.{StaysOf}

-- ---- one end

queue_kept : (what : Option PlannedQueue) (most : ℕ) (old new : ClientEnd) → PublishesPlanned what most old new → new.queue ≡ old.queue
queue_kept None most old new same = ap (λ (e : ClientEnd). e.queue) same
queue_kept (Some planned) most old new p = p.0

all_planned : (what : Option PlannedQueue) (most : ℕ) (old new : ClientEnd) → PublishesPlanned what most old new → IsUnused old → IsPlannedPass what most new.pass
all_planned None most old new same unused = subst (λ (e : ClientEnd). IsUnused e) (sym same) unused
all_planned (Some planned) most old new p unused =
    let only = p.1.only in
    let all : accesses new.pass ≡ only.more = only.steps ∙ ap (λ (xs : List Access). xs ++ only.more) unused in
    record {
      bytes = p.1.bytes;
      packet = p.1.packet;
      of_words = subst (λ (xs : List Access). AreOfWords (words_of p.1.bytes) xs) (sym all) only.of_words;
      few = subst (λ (xs : List Access). reserved xs ≤ most) (sym all) only.few;
    }

pub produces : (rings : List QueueRing) (plan : List PlannedQueue) (most : ℕ) (old new : ClientEnd) → StaysOf rings old new → PublishesPlanned (planned_at plan old.queue.0) most old new → Produces rings plan most old new
produces rings plan most old new stays published = record {
  is = stays.is;
  planned = λ unused.
      subst (λ (q : QueueId). IsPlannedPass (planned_at plan q.0) most new.pass) (sym (queue_kept (planned_at plan old.queue.0) most old new published))
      (all_planned (planned_at plan old.queue.0) most old new published unused);
}

-- ---- all ends

pub all_ends_planned : (rings : List QueueRing) (plan : List PlannedQueue) (most : ℕ) (old new : List ClientEnd) → length new ≡ length old → EachProduces rings plan most old new → All IsUnused old → All (IsPlannedEnd plan most) new
all_ends_planned rings plan most old new same each unused = λ k d lt. let low : k < length old = omega (arith, lt, same) in (each k d low).planned (unused k d low)

-- ---- queues that open

unused_dealt : (queue : QueueId) (table : TableId) (producers : ℕ) → All IsUnused (map (as_end queue) (dealt table producers))
unused_dealt queue table zero = λ k d lt. absurd (omega (arith, lt))
unused_dealt queue table (suc n) =
    subst (λ (es : List ClientEnd). All IsUnused es) (sym (map-append (as_end queue) (dealt table n) (new_producer_pass table (suc n) ∷ [])))
    (All-push IsUnused (map (as_end queue) (dealt table n)) (as_end queue (new_producer_pass table (suc n))) (unused_dealt queue table n) refl)

-- the ends of a queue that was opened are unused
pub unused_opened : (old new : List QueueRing) (size producers : ℕ) (front : FrontSeen) (queue : QueueId) (ends : List ClientEnd) (lane : LaneSeen) → IsOpened old size producers front queue ends lane new → All IsUnused ends
unused_opened old new size producers front queue ends lane h = subst (λ (es : List ClientEnd). All IsUnused es) (sym h.ends_are) (unused_dealt queue h.ring.table producers)

-- and so are all, where those before it are
pub unused_more : (before ends all : List ClientEnd) → all ≡ before ++ ends → All IsUnused before → All IsUnused ends → All IsUnused all
unused_more before ends all is old new = subst (λ (es : List ClientEnd). All IsUnused es) (sym is) (All-append IsUnused before ends old new)

pub none_unused : (ends : List ClientEnd) → ends ≡ [] → All IsUnused ends
none_unused ends none = subst (λ (es : List ClientEnd). All IsUnused es) (sym none) (λ k d lt. absurd (omega (arith, lt)))
