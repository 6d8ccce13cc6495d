-- No place is made by taking a packet out of one, and its block lies at the index of its place.
use Rattle.std.proofs.Common.{◌≡◌, ◌∙◌, Option, ap, arith, length, subst, sym, IfSome}
use Rattle.access_core.proofs.Ascending.{block-at, out-at}
use Rattle.access_core.proofs.Terms.{FoundPacket, IsFoundIn, PacketId, packet_in}
use Rattle.access_core.specs.inner.ArgumentBlocks.{by_packet}
use Rattle.access_core.specs.inner.QueueChanges.{without_block, without_one}
use Rattle.access_core.proofs.access.leaving.free_place.Goals as goal

pub remove-block-requires : goal.remove-block-requires
remove-block-requires c =
    let at = subst (λ o. IfSome o (λ one. IsFoundIn one c.args.places.now)) c.in-Some.is c.requires.found in
    (block-at c.args.places.now c.args.blocks.now c.in-Some.found.index c.in-Some.found.packet c.requires.named at).within

pub returns-in-Some-clause-blocks : goal.returns-in-Some-clause-blocks
returns-in-Some-clause-blocks c =
    let at = subst (λ o. IfSome o (λ one. IsFoundIn one c.args.places.now)) c.in-Some.is c.requires.found in
    let there = block-at c.args.places.now c.args.blocks.now c.in-Some.found.index c.in-Some.found.packet c.requires.named at in
    c.remove-block.ensures.rest
    ∙ out-at by_packet c.args.blocks.now c.in-Some.found.index there.block c.in-Some.found.packet.0 c.requires.rising there.at (ap (λ (id : PacketId). id.0) there.packet_is)
    ∙ ap (λ (o : Option FoundPacket). without_block (packet_in o) c.args.blocks.now) (sym c.in-Some.is)

pub returns-in-Some-clause-freed : goal.returns-in-Some-clause-freed
returns-in-Some-clause-freed c =
    let fewer = c.release.ensures.fewer in
    let left = ap length c.release.ensures.without in
    let id = ap (λ (o : Option FoundPacket). length (without_one (packet_in o) c.args.places.now)) (sym c.in-Some.is) in
    omega (arith, fewer, left, id)
