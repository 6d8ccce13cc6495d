use Rattle.std.proofs.Common.{◌≤◌, ◌<◌, ◌+◌, ◌∙◌, length, arith}
use Rattle.ring_core.specs.Machine.{word_place}
use Rattle.ring_core.specs.inner.Together.{packet_put}
use Rattle.ring_core.proofs.Turning.{kept_words, put_words, slot_within, look_is, published_call, published_ring}
use Rattle.ring_core.proofs.state.RingState.publish.Goals as goal

pub invariant_of-self-then-not-room : goal.invariant_of-self-then-not-room
invariant_of-self-then-not-room c =
    let s = c.self.inside in
    let lt : c.args.seat < length s.parts.items = omega (arith, c.if-seat-len.false, c.len.ensures) in
    published_ring s.size s.words.items s.parts.items _ c.args.seat c.args.ticket.0 c.index_mut.result.now _ _ c.index-seen.result.now c.has_room-room.result c.args.words.now s.words.items c.self.view_is c.self.invariant lt c.index_mut.ensures.value
    (c.publish.ensures.may s.size) c.requires c.if-not-publish.false c.index-seen.ensures c.has_room-room.ensures c.publish.ensures.noted (kept_words _ _ _ c.if-not-room.true)

pub returns-then-not-room : goal.returns-then-not-room
returns-then-not-room c =
    let s = c.self.inside in
    let lt : c.args.seat < length s.parts.items = omega (arith, c.if-seat-len.false, c.len.ensures) in (
      c.index-seen.result.now,
      look_is _ _ c.has_room-room.result _ c.args.ticket.0 c.index-seen.result.now c.self.view_is c.has_room-room.ensures c.if-not-room.true,
      published_call s.size s.words.items s.parts.items _ c.args.seat c.args.ticket.0 c.index_mut.result.now _ _ c.index-seen.result.now c.has_room-room.result c.args.words.now s.words.items c.self.view_is c.self.invariant lt c.index_mut.ensures.value
          (c.publish.ensures.may s.size) c.requires c.if-not-publish.false c.index-seen.ensures c.has_room-room.ensures c.publish.ensures.noted (kept_words _ _ _ c.if-not-room.true),
    )

pub put_packet-requires : goal.put_packet-requires
put_packet-requires c =
    let s = c.self.inside in
    let lt : word_place s.size c.args.ticket.0 0 + 8 ≤ length s.words.items = slot_within s.size s.words.items s.parts.items c.args.ticket.0 c.self.invariant in
    omega (arith, lt, c.word_place-slot.ensures)

pub invariant_of-self-2 : goal.invariant_of-self-2
invariant_of-self-2 c =
    let s = c.self.inside in
    let lt : c.args.seat < length s.parts.items = omega (arith, c.if-seat-len.false, c.len.ensures) in
    published_ring s.size s.words.items s.parts.items _ c.args.seat c.args.ticket.0 c.index_mut.result.now _ _ c.index-seen.result.now c.has_room-room.result c.args.words.now c.put_packet.new.words.items c.self.view_is c.self.invariant lt c.index_mut.ensures.value
    (c.publish.ensures.may s.size) c.requires c.if-not-publish.false c.index-seen.ensures c.has_room-room.ensures c.publish.ensures.noted
    (put_words _ _ _ _ c.if-not-room.false (c.put_packet.ensures ∙ (λ i. packet_put s.words.items (c.word_place-slot.ensures i) c.args.words.now)))

pub returns : goal.returns
returns c =
    let s = c.self.inside in
    let lt : c.args.seat < length s.parts.items = omega (arith, c.if-seat-len.false, c.len.ensures) in (
      c.index-seen.result.now,
      look_is _ _ c.has_room-room.result _ c.args.ticket.0 c.index-seen.result.now c.self.view_is c.has_room-room.ensures c.if-not-room.false,
      published_call s.size s.words.items s.parts.items _ c.args.seat c.args.ticket.0 c.index_mut.result.now _ _ c.index-seen.result.now c.has_room-room.result c.args.words.now c.put_packet.new.words.items c.self.view_is c.self.invariant lt c.index_mut.ensures.value
          (c.publish.ensures.may s.size) c.requires c.if-not-publish.false c.index-seen.ensures c.has_room-room.ensures c.publish.ensures.noted
          (put_words _ _ _ _ c.if-not-room.false (c.put_packet.ensures ∙ (λ i. packet_put s.words.items (c.word_place-slot.ensures i) c.args.words.now))),
    )
