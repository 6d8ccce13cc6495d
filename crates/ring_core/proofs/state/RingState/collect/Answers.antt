use Rattle.std.proofs.Common.{◌≤◌, ◌+◌, ap, length, arith}
use Rattle.ring_core.specs.Machine.{word_place}
use Rattle.ring_core.proofs.Turning.{slot_within, collected_call, collected_ring}
use Rattle.ring_core.proofs.state.RingState.collect.Goals as goal

pub packet_in-words-requires : goal.packet_in-words-requires
packet_in-words-requires c =
    let s = c.self.inside in
    let lt : word_place s.size c.index.result.now 0 + 8 ≤ length s.words.items = slot_within s.size s.words.items s.parts.items c.index.result.now c.self.invariant in
    omega (arith, lt, c.word_place-slot.ensures)

pub invariant_of-self-2 : goal.invariant_of-self-2
invariant_of-self-2 c =
    let s = c.self.inside in
    collected_ring s.size s.words.items s.parts.items _ c.index_mut.result.now _ _ c.index.result.now _ _ c.self.view_is c.self.invariant c.index_mut.ensures.value
    (c.collect.ensures.may s.size) c.if-not-collect.false c.index.ensures c.word_place-slot.ensures c.packet_in-words.ensures c.collect.ensures.noted

pub returns : goal.returns
returns c =
    let s = c.self.inside in (
      c.packet_in-words.result,
      ap length c.packet_in-words.ensures,
      c.packet_among.ensures,
      collected_call s.size s.words.items s.parts.items _ c.index_mut.result.now _ _ c.index.result.now _ _ c.self.view_is c.self.invariant c.index_mut.ensures.value
          (c.collect.ensures.may s.size) c.if-not-collect.false c.index.ensures c.word_place-slot.ensures c.packet_in-words.ensures c.collect.ensures.noted,
    )
