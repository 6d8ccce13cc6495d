-- The next launch is told behind those so far; as many turns as there are packets tell all.
use Rattle.std.proofs.Common.{◌∙◌, ◌<◌, ◌^◌, ap, arith, subst, sym}
use Rattle.std.specs.Option.{option_copied}
use Rattle.std.proofs.lemmas.List.Elements.{All-contains}
use Rattle.access_core.proofs.InOrder.{AreTold, found-there, none-found, told-all, told-next, told-none}
use Rattle.access_core.proofs.Terms.{ArgumentBlock, all_blocks}
use Rattle.access_core.proofs.access.rotating.packet_origins.Goals as goal
use Rattle.access_core.proofs.access.rotating.packet_origins.Goals.{in-Some+in_ok-tell_packet, in_default}

pub loop-told-init : goal.loop-told-init
loop-told-init c = λ blocks are. subst (λ origins. AreTold c.args.queues.now blocks origins 0 0) (sym c.in_ok-origins.ensures) (told-none c.args.queues.now blocks)

pub overflow_add-from : goal.overflow_add-from
overflow_add-from c =
    let found = sym c.next_launched.ensures ∙ ap option_copied c.in-Some.is in
    let fits = All-contains (λ (b : ArgumentBlock). b.number < 2 ^ 63) (all_blocks c.args.queues.now) c.in-Some.block.now c.requires.few
    (found-there c.args.queues.now c.loop-told.from c.in-Some.block.now found) in
    omega (arith, fits)

pub tell_packet-requires-clause-free : goal.tell_packet-requires-clause-free
tell_packet-requires-clause-free c =
    let few = (c.loop-told.invariant c.requires.fit.1.0 c.requires.fit.1.1).few in
    let most = c.requires.fit.0 in
    omega (arith, few, most)

pub loop-told-preserved : goal.loop-told-preserved
loop-told-preserved c = λ blocks are.
    elim c.match-next_launched.branch [
      | in-Some+in_ok-tell_packet w ↦ rw (w.origins-is, w.from-is) (told-next c.args.queues.now c.args.count blocks are c.loop-told.origins _ c.loop-told.from c.loop-told.told w.in-Some.block.now
          (sym c.next_launched.ensures ∙ ap option_copied w.in-Some.is) w.in_ok-tell_packet.ensures (c.loop-told.invariant blocks are))
      | in_default w ↦ absurd (none-found c.args.queues.now c.args.count blocks are c.loop-told.origins c.loop-told.from c.loop-told.told c.loop-told-test.true
          (sym c.next_launched.ensures ∙ ap option_copied w.in_default.is) (c.loop-told.invariant blocks are))
    ]
