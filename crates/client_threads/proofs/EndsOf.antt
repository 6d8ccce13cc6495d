-- An end stays of the broker's ring for its queue.
use Rattle.std.proofs.Common.{◌≡◌, ℕ, List, ap, ◌∙◌}
use Rattle.ring.specs.Passes.{RingSeen, ProducerSeen}
use Rattle.ring.specs.Publishing.{HasPublished, ProducerGains}
use Rattle.ring.specs.declared.producer.Publication.{Publication}
use Rattle.ring.specs.declared.producer.Publication.TheVariants.{Published, SlotBusy, NotPublishable}
use Rattle.client_threads.specs.declared.client_end.ClientEnd.{ClientEnd}
use Rattle.client_threads.specs.Rings.{IsRingOf, QueueRing, ring_of}
use Rattle.client_threads.specs.Running.{IsEndOf}

same_table : (ring : RingSeen) (old : ProducerSeen) (id : ℕ) (words : List ℕ) (told : Publication) (new : ProducerSeen) → HasPublished ring old id words told new → new.table ≡ old.table
same_table ring old id words (NotPublishable ticket) new h = ap (λ (p : ProducerSeen). p.table) h.2
same_table ring old id words (SlotBusy ticket seen) new h = h.3.0
same_table ring old id words (Published packet) new h = h.2.2.0

-- an end of the same queue and table
pub stays_of : (rings : List QueueRing) (old new : ClientEnd) → IsEndOf rings old → new.queue ≡ old.queue → new.pass.table ≡ old.pass.table → IsEndOf rings new
stays_of rings old new of queue table = record { is = (of.is.0, ap (λ q. ring_of q.0 rings) queue ∙ of.is.1, table ∙ of.is.2) }

pub published_of : (rings : List QueueRing) (ring : RingSeen) (old new : ClientEnd) (id : ℕ) (words : List ℕ) (told : Publication)
    → IsEndOf rings old → new.queue ≡ old.queue → HasPublished ring old.pass id words told new.pass → IsEndOf rings new
published_of rings ring old new id words told of queue h = stays_of rings old new of queue (same_table ring old.pass id words told new.pass h)
