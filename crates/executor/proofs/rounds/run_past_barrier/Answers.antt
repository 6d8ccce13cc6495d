use Rattle.std.proofs.Common.{◌≡◌, ◌+◌, ◌∙◌, length, ap, arith}
use Rattle.executor.specs.inner.Held.{contents, surroundings}
use Rattle.executor.specs.declared.location.Extent.{Extent}
use Rattle.executor.proofs.PlaceLemmas.{arguments_are, comes_ill, comes_well, item_is, moved_at, x_within, y_within, z_within}
use Rattle.executor.proofs.RoundLemmas.{no_item, none_went, next_fails, next_goes, all_went}
use Rattle.executor.proofs.rounds.run_past_barrier.Goals as goal

pub items-init : goal.items-init
items-init c =
    (none_went (surroundings c.args.context.now) c.args.program.now c.args.stopped.now (contents c.args.memory.now) c.requires.can, c.first_of-own.ensures)

pub run_item-requires-clause-arguments : goal.run_item-requires-clause-arguments
run_item-requires-clause-arguments c =
    ap length (arguments_are (surroundings c.items.own) (surroundings c.args.context.now) c.items.number c.items.invariant.1) ∙ c.requires.arguments

pub run_item-requires-clause-item : goal.run_item-requires-clause-item
run_item-requires-clause-item c = item_is (surroundings c.items.own) (surroundings c.args.context.now) c.items.number c.items.invariant.1

pub returns-then-not-run_item-clause-err : goal.returns-then-not-run_item-clause-err
returns-then-not-run_item-clause-err c =
    next_fails (surroundings c.args.context.now) c.args.program.now c.args.stopped.now (contents c.args.memory.now) c.items.number c.items.stopped
    (contents c.items.memory) no_item (omega arith) c.items.invariant.0 c.run_item.new.broken
    (comes_ill (surroundings c.items.own) (surroundings c.args.context.now) c.items.number c.items.invariant.1 c.args.program.now _ (contents c.items.memory)
    c.run_item.result _ _ c.run_item.new.broken c.run_item.ensures.comes c.if-not-run_item.true)

pub id_behind-item_behind-requires-clause-x : goal.id_behind-item_behind-requires-clause-x
id_behind-item_behind-requires-clause-x c =
    let within =
    x_within (surroundings c.items.own) (surroundings c.args.context.now) c.items.number c.items.invariant.1 (length c.args.stopped.now) c.requires.count
    (omega (arith, c.items.invariant.0.0)) in
    omega (arith, within, ap (λ (e : Extent). e.x) c.item_id.ensures, ap (λ (e : Extent). e.x) c.current_size.ensures)

pub id_behind-item_behind-requires-clause-y : goal.id_behind-item_behind-requires-clause-y
id_behind-item_behind-requires-clause-y c =
    let within =
    y_within (surroundings c.items.own) (surroundings c.args.context.now) c.items.number c.items.invariant.1 (length c.args.stopped.now) c.requires.count
    (omega (arith, c.items.invariant.0.0)) in
    omega (arith, within, ap (λ (e : Extent). e.y) c.item_id.ensures, ap (λ (e : Extent). e.y) c.current_size.ensures)

pub id_behind-item_behind-requires-clause-z : goal.id_behind-item_behind-requires-clause-z
id_behind-item_behind-requires-clause-z c =
    let few =
    z_within (surroundings c.items.own) (surroundings c.args.context.now) c.items.number c.items.invariant.1 (length c.args.stopped.now) c.requires.count
    (omega (arith, c.items.invariant.0.0)) in
    omega (arith, few, c.items.invariant.0.0, c.requires.few, ap (λ (e : Extent). e.z) c.item_id.ensures)

pub items-preserved : goal.items-preserved
items-preserved c =
    let a = surroundings c.args.context.now in
    let own = surroundings c.items.own in
    let n = c.items.number in
    let is = c.items.invariant.1 in (
      next_goes a c.args.program.now c.args.stopped.now (contents c.args.memory.now) n c.items.stopped
          (contents c.items.memory) no_item (omega arith) c.items.invariant.0 c.run_item.new.stopped (contents c.run_item.new.memory)
          (comes_well own a n is c.args.program.now _ (contents c.items.memory) c.run_item.result _ _ c.run_item.new.broken c.run_item.ensures.comes
          c.if-not-run_item.false),
      moved_at own a n is c.move_to.new.self c.id_behind-item_behind.result c.current_size.result c.item_id.result c.move_to.ensures c.current_size.ensures c.item_id.ensures
          (c.id_behind-item_behind.ensures n),
    )

pub returns-clause-ok : goal.returns-clause-ok
returns-clause-ok c =
    all_went (surroundings c.args.context.now) c.args.program.now c.args.stopped.now (contents c.args.memory.now) c.items.number c.items.stopped
    (contents c.items.memory) (omega arith) c.items.invariant.0
