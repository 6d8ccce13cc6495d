use Rattle.std.proofs.Common.{arith, ◌<◌, length}
use Rattle.ring_core.proofs.States.{place_within, old_fits, suits, ring_after, makes}
use Rattle.ring_core.proofs.state.RingState.step.Goals as goal

pub index-old-requires : goal.index-old-requires
index-old-requires c =
    let lt : c.place-place.result < length c.self.inside.words.items = place_within _ _ _ _ _ _ _ _ c.self.view_is c.self.invariant c.allows.ensures c.if-not-allows.false c.index.ensures c.place-place.ensures in
    omega (arith, lt)

pub index_mut-requires-2 : goal.index_mut-requires-2
index_mut-requires-2 c =
    let lt : c.place-place.result < length c.self.inside.words.items = place_within _ _ _ _ _ _ _ _ c.self.view_is c.self.invariant c.allows.ensures c.if-not-allows.false c.index.ensures c.place-place.ensures in
    omega (arith, lt)

pub word_after-requires : goal.word_after-requires
word_after-requires c = old_fits _ _ _ _ _ _ _ _ c.self.view_is c.self.invariant c.allows.ensures c.if-not-allows.false c.index.ensures c.place-place.ensures _ c.index-old.ensures

pub invariant_of-self-2 : goal.invariant_of-self-2
invariant_of-self-2 c =
    ring_after _ _ _ _ _ _ _ _ c.self.view_is c.self.invariant c.allows.ensures c.if-not-allows.false c.index.ensures c.place-place.ensures _ c.index-old.ensures
    _ _ _ c.word_after.ensures c.index_mut.ensures.value c.in_ok-record.ensures.ok

pub returns-clause-made : goal.returns-clause-made
returns-clause-made c =
    makes _ _ _ _ _ _ _ _ c.self.view_is c.self.invariant c.allows.ensures c.if-not-allows.false c.index.ensures c.place-place.ensures _ c.index-old.ensures
    _ _ _ _ c.word_after.ensures c.index_mut.ensures.value c.in_ok-record.ensures.ok c.seen.ensures

pub record-requires : goal.record-requires
record-requires c =
    suits _ _ _ _ _ _ _ _ c.self.view_is c.self.invariant c.allows.ensures c.if-not-allows.false c.index.ensures c.place-place.ensures _ c.index-old.ensures
    _ c.index_mut.ensures.value
