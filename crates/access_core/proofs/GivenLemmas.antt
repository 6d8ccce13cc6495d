-- What a packet in flight was given lies at the index of its place.
use Rattle.std.proofs.Common.{◌≡◌, ℕ, ◌==◌, List, [], ◌∷◌, Bool, true, filter, find, get_or, refl, sym, subst, ◌∙◌, ap, Some, None, Option, arith, slice_get, if◌then◌else◌}
use Rattle.std.proofs.lemmas.Bool.{eq-eqb}
use Rattle.core_model.specs.History.{beginning}
use Rattle.core_model.specs.Holds.{arguments}
use Rattle.access_core.specs.inner.ArgumentBlocks.{IsOfQueue, by_packet, is_of}
use Rattle.access_core.proofs.Ascending.{IsBlockAt, all-at, block-at, found-at}
use Rattle.access_core.proofs.ChangedQueue.{kept-there}
use Rattle.access_core.proofs.HeldOn.{own-bytes, own-listed}
use Rattle.access_core.proofs.Laid.{its-own}
use Rattle.access_core.proofs.TakeLemmas.{IsOpen, found-of, holder-kept, open-of}
use Rattle.access_core.proofs.Terms.{ArgumentBlock, ClientId, FoundPacket, History, Inside, IsCached, IsFoundAt, IsInPlace, IsQueueIndex, PacketId, Place, Queue, QueueId, bytes_or, history_of, is_block, is_listed, own_rights, rights_for}

-- a packet's block is found among those of its queue
found-own : (queue : QueueId) (id : PacketId) (bs : List ArgumentBlock) → find (is_block queue id) bs ≡ find (λ (b : ArgumentBlock). b.packet.0 == id.0) (filter (is_of queue) bs)
found-own queue id [] = refl
found-own queue id (b ∷ bs) = grind (arith, found-own queue id bs)

module _ (a : Inside) (kept : IsCached a) (old : History) (seen_as : history_of a ≡ old) (queue : QueueId) (found : FoundPacket) (place : Place) (placed : IsInPlace old queue found.packet place)
    (at : IsFoundAt old queue found) (i : ℕ) (one : Queue) (index : IsQueueIndex a.queues.items queue (Some i)) (value : one ≡ get_or a.queues.items i one) where
  there : IsOpen a queue
  there = open-of a kept old seen_as queue found.packet place placed

  is : one ≡ there.q
  is = kept-there a.queues.items queue i there.q one there.found index value

  -- it is there
  pub given-there : IsBlockAt one.blocks found.index found.packet
  given-there =
      subst (λ (q : Queue). IsBlockAt q.blocks found.index found.packet) (sym is)
      (block-at there.q.places there.q.blocks found.index found.packet there.sound.given (found-of a kept old seen_as queue found at there.q there.found))

  module _ (b : ArgumentBlock) (here : slice_get one.blocks found.index ≡ Some b) where
    lies : slice_get there.q.blocks found.index ≡ Some b
    lies = ap (λ (q : Queue). slice_get q.blocks found.index) (sym is) ∙ here

    packet-is : b.packet ≡ found.packet
    packet-is =
        let same : Some given-there.block ≡ Some b = sym given-there.at ∙ here in
        ap (λ (o : Option ArgumentBlock). elim o [ None ↦ found.packet | Some x ↦ x.packet ]) (sym same) ∙ given-there.packet_is

    first : find (is_block queue found.packet) kept.blocks ≡ Some b
    first =
        found-own queue found.packet kept.blocks
        ∙ ap (find (λ (b : ArgumentBlock). b.packet.0 == found.packet.0)) (sym (its-own a.queues.items _ kept.blocks kept.laid queue there.q there.found there.ascending))
        ∙ found-at by_packet there.q.blocks found.index b found.packet.0 there.sound.rising lies (ap (λ (p : PacketId). p.0) packet-is)

    client-is : b.client ≡ one.client
    client-is = (all-at (IsOfQueue there.q.number there.q.client) there.q.blocks found.index b there.sound.of_queue lies).1 ∙ ap (λ (q : Queue). q.client) (sym is)

    -- what it lists is what the packet holds
    pub given-rights : is_listed b.rights ≡ own_rights (beginning old) old.entries queue found.packet
    given-rights =
        let its : (b.client.0 == one.client.0) ≡ true = eq-eqb _ _ (ap (λ (c : ClientId). c.0) client-is) in
        ap (λ (x : Bool). is_listed (if x then b.rights else [])) (sym its)
        ∙ ap (λ (o : Option ArgumentBlock). is_listed (rights_for one.client o)) (sym first)
        ∙ own-listed a kept queue found.packet old seen_as one.client (holder-kept a kept old seen_as queue found.packet place placed i one index value)

    -- and its bytes are the packet's arguments
    pub given-bytes : b.bytes ≡ arguments (beginning old) old.entries queue found.packet
    given-bytes = ap (bytes_or []) (sym first) ∙ own-bytes a kept queue found.packet old seen_as
