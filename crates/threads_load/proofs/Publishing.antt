-- What a producer publishes, call by call.
use Rattle.std.proofs.Common.{◌≡◌, ℕ, ◌+◌, List, [], ◌∷◌, ◌++◌, map, refl, sym, ap, ◌∙◌, subst, arith, append_assoc}
use Rattle.std.specs.Prelude.{◌≤◌}
use Rattle.std.proofs.lemmas.List.{append-nil, map-append}
use Rattle.ring.specs.Made.{knowing_all, read, publication}
use Rattle.ring.specs.Passes.{ProducerSeen, RingSeen}
use Rattle.ring.specs.Publishing.{HasPublished, ProducerGains}
use Rattle.ring.specs.declared.producer.Publication.{Publication}
use Rattle.ring.specs.declared.producer.Publication.TheVariants.{Published, SlotBusy, NotPublishable}
use Rattle.ring_core.specs.Runs.{after_own, steps_of, word_read}
use Rattle.ring_core.specs.Parts.{seen_by}
use Rattle.ring_core.specs.declared.access.Access.{Access}
use Rattle.ring_core.specs.declared.access.Access.TheVariants.{Reserve, LoadReadIndex}
use Rattle.ring_core.specs.declared.access.Made.{Made}
use Rattle.ring_core.specs.declared.part.SeatPart.{SeatPart}
use Rattle.ring_core.specs.declared.part.SeatPart.TheVariants.{Producer, Processor}
use Rattle.client_threads.specs.declared.client_end.ClientEnd.{ClientEnd}
use Rattle.client_threads.specs.Rings.{IsRingOf, QueueRing}
use Rattle.client_threads.specs.Running.{IsEndOf}
use Rattle.threads_load.specs.Publications.{AreOfWords, PublishesOnly, accesses, reserved}

-- ---- the steps of a pass

abbrev access_of : Made → Access
access_of made = made.access

one_more : (part : SeatPart) (made : Made) → map access_of (steps_of (after_own part made)) ≡ map access_of (steps_of part) ++ made.access ∷ []
one_more (Producer p) made = map-append access_of p.steps (record { access = made.access; seen = seen_by made.access (word_read made.seen) } ∷ [])
one_more (Processor p) made = map-append access_of p.steps (record { access = made.access; seen = seen_by made.access (word_read made.seen) } ∷ [])

all_more : (part : SeatPart) (made : List Made) → map access_of (steps_of (knowing_all part made)) ≡ map access_of (steps_of part) ++ map access_of made
all_more part [] = sym (append-nil (map access_of (steps_of part)))
all_more part (m ∷ ms) = all_more (after_own part m) ms ∙ (ap (λ (xs : List Access). xs ++ map access_of ms) (one_more part m) ∙ append_assoc (map access_of (steps_of part)) (m.access ∷ []) (map access_of ms))

gained : (ring : RingSeen) (old new : ProducerSeen) (made : List Made) → ProducerGains ring old made new → accesses new ≡ accesses old ++ map access_of made
gained ring old new made g = ap (λ (part : SeatPart). map access_of (steps_of part)) g.2.1 ∙ all_more (Producer old.part) made

-- ---- of these words alone

of_append : (words : List ℕ) (xs ys : List Access) → AreOfWords words xs → AreOfWords words ys → AreOfWords words (xs ++ ys)
of_append words [] ys a b = b
of_append words (x ∷ xs) ys a b = (a.0, of_append words xs ys a.1 b)

reserved-append : (xs ys : List Access) → reserved (xs ++ ys) ≡ reserved xs + reserved ys
reserved-append [] ys = omega arith
reserved-append (x ∷ xs) ys = omega (arith, reserved-append xs ys)

pub only_none : (words : List ℕ) (most : ℕ) (pass : ProducerSeen) → PublishesOnly words most pass pass
only_none words most pass = record { more = []; steps = sym (append-nil (accesses pass)); of_words = tt; few = omega arith }

pub only_same : (words : List ℕ) (most : ℕ) (old new : ProducerSeen) → new ≡ old → PublishesOnly words most old new
only_same words most old new same = subst (λ (p : ProducerSeen). PublishesOnly words most old p) (sym same) (only_none words most old)

pub only_both : (words : List ℕ) (one two most : ℕ) (old mid new : ProducerSeen) → PublishesOnly words one old mid → PublishesOnly words two mid new → one + two ≤ most → PublishesOnly words most old new
only_both words one two most old mid new a b fits = record {
  more = a.more ++ b.more;
  steps = b.steps ∙ (ap (λ (xs : List Access). xs ++ b.more) a.steps ∙ append_assoc (accesses old) a.more b.more);
  of_words = of_append words a.more b.more a.of_words b.of_words;
  few = omega (arith, reserved-append a.more b.more, a.few, b.few, fits);
}

pub only_fewer : (words : List ℕ) (few most : ℕ) (old new : ProducerSeen) → PublishesOnly words few old new → few ≤ most → PublishesOnly words most old new
only_fewer words few most old new a fits = record { more = a.more; steps = a.steps; of_words = a.of_words; few = omega (arith, a.few, fits) }

-- ---- calls

pub only_reserved : (rings : List QueueRing) (old new : ClientEnd) (id : ℕ) (words : List ℕ) → IsEndOf rings old
    → ((ring : RingSeen) → IsRingOf rings old.queue.0 ring → ProducerGains ring old.pass (read Reserve id ∷ []) new.pass) → PublishesOnly words 1 old.pass new.pass
only_reserved rings old new id words of gains = record {
  more = Reserve ∷ [];
  steps = gained of.is.0 old.pass new.pass (read Reserve id ∷ []) (gains of.is.0 of.is.1);
  of_words = (tt, tt);
  few = omega arith;
}

published : (ring : RingSeen) (old new : ProducerSeen) (id : ℕ) (words : List ℕ) (told : Publication) → HasPublished ring old id words told new → PublishesOnly words 0 old new
published ring old new id words (NotPublishable ticket) h = only_same words 0 old new h.2
published ring old new id words (SlotBusy ticket seen) h = record {
  more = LoadReadIndex (record { 0 = id }) ∷ [];
  steps = gained ring old new (read (LoadReadIndex (record { 0 = id })) seen ∷ []) h.3;
  of_words = (tt, tt);
  few = omega arith;
}
published ring old new id words (Published packet) h = record {
  more = map access_of (publication id h.2.0 words);
  steps = gained ring old new (publication id h.2.0 words) h.2.2;
  of_words = (tt, (refl, (refl, (refl, (refl, (refl, (refl, (refl, (refl, tt)))))))));
  few = omega arith;
}

pub only_published : (rings : List QueueRing) (old new : ClientEnd) (id : ℕ) (words : List ℕ) (told : Publication) → IsEndOf rings old
    → ((ring : RingSeen) → IsRingOf rings old.queue.0 ring → HasPublished ring old.pass id words told new.pass) → PublishesOnly words 0 old.pass new.pass
only_published rings old new id words told of has = published of.is.0 old.pass new.pass id words told (has of.is.0 of.is.1)

-- a look for room, or a publication, behind others
pub only_then : (rings : List QueueRing) (first : ProducerSeen) (old new : ClientEnd) (id : ℕ) (words : List ℕ) (told : Publication) → IsEndOf rings old → PublishesOnly words 0 first old.pass
    → ((ring : RingSeen) → IsRingOf rings old.queue.0 ring → HasPublished ring old.pass id words told new.pass) → PublishesOnly words 0 first new.pass
only_then rings first old new id words told of before has = only_both words 0 0 0 first old.pass new.pass before (only_published rings old new id words told of has) (omega arith)
