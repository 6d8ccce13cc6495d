-- The next launch is told behind those so far; as many turns as there are packets tell all.
use Rattle.std.proofs.Common.{◌∙◌, ◌<◌, ◌≤◌, ◌^◌, ap, arith, length, refl, subst, sym}
use Rattle.std.specs.Option.{option_copied}
use Rattle.std.proofs.lemmas.List.Elements.{All-contains}
use Rattle.core_model.specs.declared.limits.TheConstants.{ALL_IN_FLIGHT}
use Rattle.access_core.specs.inner.Ready.{Fits, Spends}
use Rattle.access_core.proofs.InOrder.{found-late, found-there, none-found, told-all}
use Rattle.access_core.proofs.Retelling.{AreRetold, next-room, next-told, retold-next, retold-none}
use Rattle.access_core.proofs.Terms.{ArgumentBlock, all_blocks}
use Rattle.access_core.proofs.access.truncating.tell_all.Goals as goal
use Rattle.access_core.proofs.access.truncating.tell_all.Goals.{in-Some, in_default}

pub loop-turns-init : goal.loop-turns-init
loop-turns-init c = λ blocks may.
    subst (λ origins. AreRetold c.args.queues.now c.args.told blocks origins c.args.fresh.now c.args.fresh.now 0 0) (sym c.requires.none)
    (retold-none c.args.queues.now c.args.count c.args.told c.args.fresh.now.packets c.args.fresh.now blocks may refl)

pub overflow_add-from : goal.overflow_add-from
overflow_add-from c =
    let found = sym c.next_launched.ensures ∙ ap option_copied c.in-Some.is in
    let fits = All-contains (λ (b : ArgumentBlock). b.number < 2 ^ 63) (all_blocks c.args.queues.now) c.in-Some.block.now c.requires.few
    (found-there c.args.queues.now c.loop-turns.from c.in-Some.block.now found) in
    omega (arith, fits)

pub tell_packet-requires-clause-free : goal.tell_packet-requires-clause-free
tell_packet-requires-clause-free c =
    let few = (c.loop-turns.invariant c.requires.ready.0 c.requires.ready.1).so_far.few in
    let most = c.requires.ready.1.few in
    omega (arith, few, most)

pub tell_packet-requires-clause-before : goal.tell_packet-requires-clause-before
tell_packet-requires-clause-before c =
    let found = sym c.next_launched.ensures ∙ ap option_copied c.in-Some.is in
    next-told c.args.queues.now c.args.count c.args.told c.args.fresh.now.packets c.args.fresh.now c.requires.ready.0 c.requires.ready.1 c.loop-turns.origins c.loop-turns.fresh c.loop-turns.from c.loop-turns.turns
    (c.loop-turns.invariant c.requires.ready.0 c.requires.ready.1) c.in-Some.block.now found

pub tell_packet-requires-clause-room : goal.tell_packet-requires-clause-room
tell_packet-requires-clause-room c = λ since.
    let found = sym c.next_launched.ensures ∙ ap option_copied c.in-Some.is in
    let may = c.requires.ready.1 in
    let was = c.loop-turns.invariant c.requires.ready.0 may in
    let there = may.in_order.lie c.in-Some.block.now (found-there c.args.queues.now c.loop-turns.from c.in-Some.block.now found) in
    let fit = All-contains (λ (b : ArgumentBlock). Fits c.args.fresh.now b) c.requires.ready.0 c.in-Some.block.now may.fit there in (
      next-room c.args.queues.now c.args.count c.args.told c.args.fresh.now.packets c.args.fresh.now c.requires.ready.0 may c.loop-turns.origins c.loop-turns.fresh c.loop-turns.from c.loop-turns.turns was
          c.in-Some.block.now found (found-late c.args.queues.now c.loop-turns.from c.in-Some.block.now found) since,
      (subst (λ n. length c.in-Some.block.now.rights ≤ n) (sym was.spent.rights_each) fit.0, subst (λ n. length c.in-Some.block.now.bytes ≤ n) (sym was.spent.bytes_each) fit.1),
    )

pub loop-turns-preserved : goal.loop-turns-preserved
loop-turns-preserved c = λ blocks may.
    elim c.match-next_launched.branch [
      | in-Some w ↦
          let found = sym c.next_launched.ensures ∙ ap option_copied w.in-Some.is in
          rw (w.origins-is, w.fresh-is, w.from-is)
          (retold-next c.args.queues.now c.args.count c.args.told c.args.fresh.now.packets c.args.fresh.now blocks may c.loop-turns.origins c.loop-turns.fresh c.loop-turns.from c.loop-turns.turns
          (c.loop-turns.invariant blocks may) w.in-Some.block.now found (found-late c.args.queues.now c.loop-turns.from w.in-Some.block.now found)
          (may.in_order.lie w.in-Some.block.now (found-there c.args.queues.now c.loop-turns.from w.in-Some.block.now found))
          _ w.tell_packet.ensures.origins _ w.tell_packet.ensures.others w.tell_packet.ensures.again w.tell_packet.ensures.spent)
      | in_default w ↦ absurd (none-found c.args.queues.now c.args.count blocks may.in_order c.loop-turns.origins c.loop-turns.from c.loop-turns.turns c.loop-turns-test.true
          (sym c.next_launched.ensures ∙ ap option_copied w.in_default.is) (c.loop-turns.invariant blocks may).so_far)
    ]

pub returns-clause-told : goal.returns-clause-told
returns-clause-told c = λ blocks may.
    let was = c.loop-turns.invariant blocks may in
    told-all c.args.queues.now c.args.count blocks may.in_order c.loop-turns.origins c.loop-turns.from c.loop-turns.turns (omega arith) was.so_far

pub returns-clause-spent : goal.returns-clause-spent
returns-clause-spent c =
    subst (λ n. Spends n c.args.fresh.now c.loop-turns.fresh) (omega arith) (c.loop-turns.invariant c.requires.ready.0 c.requires.ready.1).spent
