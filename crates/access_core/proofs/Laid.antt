-- The argument blocks of packets in flight lie in their queues, whatever is entered.
use Rattle.std.proofs.Common.{◌≡◌, ℕ, ◌+◌, ◌<◌, ◌==◌, Bool, true, false, not, List, [], ◌∷◌, ◌++◌, length, filter, refl, sym, ◌∙◌, ap, Option, Some, None, arith, All, if◌then◌else◌}
use Rattle.std.proofs.lemmas.Bool.{eq-eqb, eqb-true}
use Rattle.access_core.specs.inner.ArgumentBlocks.{blocks_in, by_number, is_of}
use Rattle.access_core.specs.inner.CachedQueue.{AreLaid}
use Rattle.access_core.specs.inner.QueueChanges.{with_launched, without_block}
use Rattle.access_core.specs.declared.access.leaving.Leaving.{Leaving}
use Rattle.access_core.specs.declared.access.leaving.Leaving.TheVariants as leaving
use Rattle.access_core.proofs.Ascending.{ascend-some, ascend-with}
use Rattle.access_core.proofs.ChangedQueue.{found-changed}
use Rattle.access_core.proofs.QueueLemmas.{found-push}
use Rattle.access_core.proofs.TakeLemmas.{IsOpen}
use Rattle.access_core.proofs.Terms.{All-filter, All-push, All-weaker, ArgumentBlock, AscendFrom, Inside, IsCached, Packet, PacketId, Queue, QueueId, append-nil, filter-append, flight, is_block, length-map, name_of, packet_of, queue_in, start_of, with_leaving, with_queue, without_blocks, without_queue}

-- there is one block for each packet in flight
pub blocks-count : (a : Inside) (kept : IsCached a) → length kept.blocks ≡ a.in_flight_count
blocks-count a kept =
    let same = ap length kept.blocks_are in
    omega (arith, same, length-map kept.blocks packet_of, length-map (flight (start_of a) a.audit.items) name_of, kept.in_flight_count)

-- the blocks without a packet's
abbrev pub blocks_without : QueueId → PacketId → List ArgumentBlock → List ArgumentBlock
blocks_without queue id blocks = filter (λ b. not (is_block queue id b)) blocks

-- one entry more
before-more : (n : ℕ) (blocks : List ArgumentBlock) → All (λ (b : ArgumentBlock). b.number < n) blocks → All (λ (b : ArgumentBlock). b.number < n + 1) blocks
before-more n blocks before = All-weaker (λ (b : ArgumentBlock). b.number < n) (λ (b : ArgumentBlock). b.number < n + 1) (λ b less. omega (arith, less)) blocks before

pub laid-still : (queues : List Queue) (n : ℕ) (blocks : List ArgumentBlock) → AreLaid queues n blocks → AreLaid queues (n + 1) blocks
laid-still queues n blocks laid = record { in_queues = laid.in_queues; in_order = laid.in_order; before = before-more n blocks laid.before }

-- ---- one queue changed

-- a block of a queue's packet is of no other's
of-one : (queue m : QueueId) (b : ArgumentBlock) → is_of queue b ≡ true → (queue.0 == m.0) ≡ false → is_of m b ≡ false
of-one queue m b is other = grind arith

-- those of a queue are left where a packet of it leaves
left-here : (queue : QueueId) (id : PacketId) (bs : List ArgumentBlock)
    → filter (λ (b : ArgumentBlock). not (b.packet.0 == id.0)) (filter (is_of queue) bs) ≡ filter (is_of queue) (filter (λ b. not (is_block queue id b)) bs)
left-here queue id [] = refl
left-here queue id (b ∷ bs) = grind (arith, left-here queue id bs)

-- and those of another
left-other : (queue m : QueueId) (id : PacketId) (bs : List ArgumentBlock) → (queue.0 == m.0) ≡ false → filter (is_of m) (filter (λ b. not (is_block queue id b)) bs) ≡ filter (is_of m) bs
left-other queue m id [] other = refl
left-other queue m id (b ∷ bs) other = grind (arith, left-other queue m id bs other)

module _ (queues : List Queue) (n : ℕ) (blocks : List ArgumentBlock) (laid : AreLaid queues n blocks) (queue : QueueId) (q : Queue) (found : queue_in queues queue ≡ Some q) (ascending : AscendFrom 0 queues) where
  -- its own blocks
  pub its-own : q.blocks ≡ filter (is_of queue) blocks
  its-own = ap blocks_in (sym found) ∙ laid.in_queues queue

  -- those that lie in each queue, where one has others
  in-queues : (change : Queue → Queue) (new : List ArgumentBlock) → ((x : Queue) → (change x).number ≡ x.number) → (change q).blocks ≡ filter (is_of queue) new
      → ((m : QueueId) → (queue.0 == m.0) ≡ false → filter (is_of m) new ≡ filter (is_of m) blocks) → (m : QueueId) → blocks_in (queue_in (with_queue queues queue change) m) ≡ filter (is_of m) new
  in-queues change new same here others m =
      found-changed queues queue change q found ascending same blocks_in m ∙ by_test (queue.0 == m.0) refl
    where
      by_test : (b : Bool) → (queue.0 == m.0) ≡ b → (if b then blocks_in (Some (change q)) else blocks_in (queue_in queues m)) ≡ filter (is_of m) new
      by_test true is =
          let at : queue ≡ m = ap (λ k. record { 0 = k }) (eqb-true _ _ is) in
          here ∙ ap (λ k. filter (is_of k) new) at
      by_test false is = laid.in_queues m ∙ sym (others m is)

  -- a change that leaves the packets in their places
  pub laid-kept : (change : Queue → Queue) → ((x : Queue) → (change x).number ≡ x.number) → (change q).blocks ≡ q.blocks → AreLaid (with_queue queues queue change) (n + 1) blocks
  laid-kept change same still = record {
    in_queues = in-queues change blocks same (still ∙ its-own) (λ m other. refl);
    in_order = laid.in_order;
    before = before-more n blocks laid.before;
  }

  -- a packet that is launched has its block behind the others
  pub laid-launched : (p : Packet) (b : ArgumentBlock) → b.queue ≡ queue → b.number ≡ n → AreLaid (with_queue queues queue (with_launched p b)) (n + 1) (blocks ++ b ∷ [])
  laid-launched p b named numbered = record {
    in_queues = in-queues (with_launched p b) (blocks ++ b ∷ []) (λ x. refl) (ap (λ bs. bs ++ b ∷ []) its-own ∙ sym (filter-append (is_of queue) blocks (b ∷ []) ∙ ap (λ bs. filter (is_of queue) blocks ++ bs) one)) others;
    in_order = ascend-with by_number blocks b laid.in_order (All-weaker (λ (c : ArgumentBlock). c.number < n) (λ (c : ArgumentBlock). c.number < b.number) (λ c less. omega (arith, less, numbered)) blocks laid.before);
    before = All-push (λ (c : ArgumentBlock). c.number < n + 1) blocks b (before-more n blocks laid.before) (omega (arith, numbered));
  }
    where
      its : is_of queue b ≡ true
      its = eq-eqb _ _ (ap (λ (k : QueueId). k.0) named)

      one : filter (is_of queue) (b ∷ []) ≡ b ∷ []
      one = rw its refl

      others : (m : QueueId) → (queue.0 == m.0) ≡ false → filter (is_of m) (blocks ++ b ∷ []) ≡ filter (is_of m) blocks
      others m other =
          let none : is_of m b ≡ false = of-one queue m b its other in
          filter-append (is_of m) blocks (b ∷ []) ∙ ap (λ (x : Bool). filter (is_of m) blocks ++ (if x then b ∷ [] else [])) none ∙ append-nil (filter (is_of m) blocks)

  blocks-left : (id : Option PacketId) (how : Leaving) (x : Queue) → (with_leaving id how x).blocks ≡ without_block id x.blocks
  blocks-left id leaving.Completed x = refl
  blocks-left id (leaving.Failed error) x = refl
  blocks-left id leaving.Stopped x = refl

  numbers-left : (id : Option PacketId) (how : Leaving) (x : Queue) → (with_leaving id how x).number ≡ x.number
  numbers-left id leaving.Completed x = refl
  numbers-left id (leaving.Failed error) x = refl
  numbers-left id leaving.Stopped x = refl

  -- a packet that leaves flight takes its block with it
  pub laid-left : (id : PacketId) (how : Leaving) → AreLaid (with_queue queues queue (with_leaving (Some id) how)) (n + 1) (filter (λ b. not (is_block queue id b)) blocks)
  laid-left id how = record {
    in_queues = in-queues (with_leaving (Some id) how) (filter (λ b. not (is_block queue id b)) blocks) (numbers-left (Some id) how)
        (blocks-left (Some id) how q ∙ ap (filter (λ (b : ArgumentBlock). not (b.packet.0 == id.0))) its-own ∙ left-here queue id blocks) (λ m other. left-other queue m id blocks other);
    in_order = ascend-some by_number (λ b. not (is_block queue id b)) blocks laid.in_order;
    before = All-filter (λ b. not (is_block queue id b)) (λ (b : ArgumentBlock). b.number < n + 1) blocks (before-more n blocks laid.before);
  }

-- ---- a queue more, or one fewer

-- a queue that is opened has no block
pub laid-opened : (queues : List Queue) (n : ℕ) (blocks : List ArgumentBlock) → AreLaid queues n blocks → (q : Queue) → q.blocks ≡ [] → AreLaid (queues ++ q ∷ []) (n + 1) blocks
laid-opened queues n blocks laid q none = record {
  in_queues = λ m. found-push blocks_in queues q none m ∙ laid.in_queues m;
  in_order = laid.in_order;
  before = before-more n blocks laid.before;
}

-- of the blocks that are left where a queue is closed none is its
none-left : (queue m : QueueId) (bs : List ArgumentBlock) → (queue.0 == m.0) ≡ true → filter (is_of m) (without_blocks queue bs) ≡ []
none-left queue m [] is = refl
none-left queue m (b ∷ bs) is = let same : queue.0 ≡ m.0 = eqb-true _ _ is in grind (arith, none-left queue m bs is)

others-left : (queue m : QueueId) (bs : List ArgumentBlock) → (queue.0 == m.0) ≡ false → filter (is_of m) (without_blocks queue bs) ≡ filter (is_of m) bs
others-left queue m [] other = refl
others-left queue m (b ∷ bs) other = grind (arith, others-left queue m bs other)

pub laid-closed : (queues : List Queue) (n : ℕ) (blocks : List ArgumentBlock) → AreLaid queues n blocks → (queue : QueueId)
    → ((m : QueueId) → queue_in (without_queue queue queues) m ≡ (if queue.0 == m.0 then None else queue_in queues m)) → AreLaid (without_queue queue queues) (n + 1) (without_blocks queue blocks)
laid-closed queues n blocks laid queue found = record {
  in_queues = λ m. ap blocks_in (found m) ∙ by_test m (queue.0 == m.0) refl;
  in_order = ascend-some by_number (λ b. not (is_of queue b)) blocks laid.in_order;
  before = All-filter (λ b. not (is_of queue b)) (λ (b : ArgumentBlock). b.number < n + 1) blocks (before-more n blocks laid.before);
}
  where
    by_test : (m : QueueId) (b : Bool) → (queue.0 == m.0) ≡ b → blocks_in (if b then None else queue_in queues m) ≡ filter (is_of m) (without_blocks queue blocks)
    by_test m true is = sym (none-left queue m blocks is)
    by_test m false is = laid.in_queues m ∙ sym (others-left queue m blocks is)

-- ---- by the fields

module _ (a : Inside) (kept : IsCached a) where
  abbrev entries : ℕ
  entries = a.start.before + length a.audit.items

  -- an entry that changes no queue
  pub quiet-laid : AreLaid a.queues.items (a.start.before + length a.audit.items + 1) kept.blocks
  quiet-laid = laid-still a.queues.items entries kept.blocks kept.laid

  module _ (queue : QueueId) (at : IsOpen a queue) where
    -- one that leaves the packets of a queue in their places
    pub kept-laid : (change : Queue → Queue) → ((x : Queue) → (change x).number ≡ x.number) → (change at.q).blocks ≡ at.q.blocks
        → AreLaid (with_queue a.queues.items queue change) (a.start.before + length a.audit.items + 1) kept.blocks
    kept-laid = laid-kept a.queues.items entries kept.blocks kept.laid queue at.q at.found at.ascending

    -- one that takes a packet out of flight
    pub left-laid : (id : PacketId) (how : Leaving) → AreLaid (with_queue a.queues.items queue (with_leaving (Some id) how)) (a.start.before + length a.audit.items + 1) (blocks_without queue id kept.blocks)
    left-laid = laid-left a.queues.items entries kept.blocks kept.laid queue at.q at.found at.ascending
