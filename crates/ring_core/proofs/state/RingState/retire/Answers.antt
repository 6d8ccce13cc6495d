use Rattle.std.proofs.Common.{◌≤◌, ◌<◌, ◌^◌, ◌+◌, length, arith}
use Rattle.ring_core.specs.Machine.{word_place}
use Rattle.ring_core.proofs.Turning.{slot_within, retired_call, retired_fits, retired_ring}
use Rattle.ring_core.proofs.state.RingState.retire.Goals as goal

pub index_mut-requires-2 : goal.index_mut-requires-2
index_mut-requires-2 c =
    let s = c.self.inside in
    let lt : word_place s.size c.index-index.result.now 0 + 8 ≤ length s.words.items = slot_within s.size s.words.items s.parts.items c.index-index.result.now c.self.invariant in
    omega (arith, lt, c.word_place.ensures)

pub overflow_add-index : goal.overflow_add-index
overflow_add-index c =
    let s = c.self.inside in
    let fits : c.index-index.result.now + 1 < 2 ^ 64 =
    retired_fits s.size s.words.items s.parts.items _ c.index_mut.result.now _ _ c.index-index.result.now _ c.self.view_is c.self.invariant c.index_mut.ensures.value
    (c.retire.ensures.may s.size) c.if-not-retire.false c.index-index.ensures c.word_place.ensures c.retire.ensures.noted in
    omega (arith, fits)

pub invariant_of-self-2 : goal.invariant_of-self-2
invariant_of-self-2 c =
    let s = c.self.inside in
    retired_ring s.size s.words.items s.parts.items _ c.index_mut.result.now _ _ c.index-index.result.now _ c.self.view_is c.self.invariant c.index_mut.ensures.value
    (c.retire.ensures.may s.size) c.if-not-retire.false c.index-index.ensures c.word_place.ensures c.retire.ensures.noted

pub returns : goal.returns
returns c =
    let s = c.self.inside in
    retired_call s.size s.words.items s.parts.items _ c.index_mut.result.now _ _ c.index-index.result.now _ c.self.view_is c.self.invariant c.index_mut.ensures.value
    (c.retire.ensures.may s.size) c.if-not-retire.false c.index-index.ensures c.word_place.ensures c.retire.ensures.noted
