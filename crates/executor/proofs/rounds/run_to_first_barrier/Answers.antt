use Rattle.std.proofs.Common.{◌≡◌, ◌+◌, ◌∙◌, List, length, ap, arith, subst, sym}
use Rattle.executor.specs.Group.{ready}
use Rattle.executor.specs.inner.Few.{RestIsZero}
use Rattle.executor.specs.inner.Held.{contents, surroundings}
use Rattle.executor.specs.inner.ItemRuns.{ItemComes}
use Rattle.executor.specs.inner.Stops.{standing}
use Rattle.executor.specs.declared.item.Item.{Item}
use Rattle.executor.specs.declared.item.StoppedItem.{StoppedItem}
use Rattle.executor.proofs.FewLemmas.{begun_anew, cleared_rest, left_rest}
use Rattle.executor.specs.declared.location.Extent.{Extent}
use Rattle.executor.proofs.PlaceLemmas.{arguments_are, comes_ill, comes_well, item_is, moved_at, x_within, y_within, z_within}
use Rattle.executor.proofs.RoundLemmas.{HaveRun, none_ran, first_fails, one_ran, all_ran}
use Rattle.executor.proofs.rounds.run_to_first_barrier.Goals as goal

pub items-init : goal.items-init
items-init c =
    let a = surroundings c.args.context.now in
    let p = c.args.program.now in
    let m = contents c.args.memory.now in (
      subst (λ (xs : List StoppedItem). HaveRun a p c.args.count m 0 xs m) (sym c.new-stopped.ensures.items) (none_ran a p c.args.count m),
      (c.first_of-own.ensures, λ few. subst (λ (s : StoppedItem). RestIsZero s.item.registers) (sym c.fresh-item.ensures) cleared_rest),
    )

pub run_item-requires-clause-arguments : goal.run_item-requires-clause-arguments
run_item-requires-clause-arguments c =
    ap length (arguments_are (surroundings c.items.own) (surroundings c.args.context.now) c.items.number c.items.invariant.1.0) ∙ c.requires.arguments

pub run_item-requires-clause-item : goal.run_item-requires-clause-item
run_item-requires-clause-item c = item_is (surroundings c.items.own) (surroundings c.args.context.now) c.items.number c.items.invariant.1.0

pub returns-then-not-run_item-clause-err : goal.returns-then-not-run_item-clause-err
returns-then-not-run_item-clause-err c =
    let a = surroundings c.args.context.now in
    let p = c.args.program.now in
    let m = contents c.items.memory in
    first_fails a p c.args.count (contents c.args.memory.now) c.items.number c.items.stopped.items m (omega arith) c.items.invariant.0 c.run_item.new.broken
    (comes_ill (surroundings c.items.own) a c.items.number c.items.invariant.1.0 p _ m c.run_item.result _ _ c.run_item.new.broken
    (begun_anew (λ i k. ItemComes (surroundings c.items.own) p c.items.number (ready i k) m c.run_item.result (standing c.run_item.new.stopped) (contents c.run_item.new.memory) c.run_item.new.broken) c.begin_anew.new.self.item c.begin_anew.new.self.left c.begin_anew.ensures.item c.begin_anew.ensures.left c.run_item.ensures.comes)
    c.if-not-run_item.true)

pub id_behind-item_behind-requires-clause-x : goal.id_behind-item_behind-requires-clause-x
id_behind-item_behind-requires-clause-x c =
    let within =
    x_within (surroundings c.items.own) (surroundings c.args.context.now) c.items.number c.items.invariant.1.0 c.args.count c.requires.count (omega arith) in
    omega (arith, within, ap (λ (e : Extent). e.x) c.item_id.ensures, ap (λ (e : Extent). e.x) c.current_size.ensures)

pub id_behind-item_behind-requires-clause-y : goal.id_behind-item_behind-requires-clause-y
id_behind-item_behind-requires-clause-y c =
    let within =
    y_within (surroundings c.items.own) (surroundings c.args.context.now) c.items.number c.items.invariant.1.0 c.args.count c.requires.count (omega arith) in
    omega (arith, within, ap (λ (e : Extent). e.y) c.item_id.ensures, ap (λ (e : Extent). e.y) c.current_size.ensures)

pub id_behind-item_behind-requires-clause-z : goal.id_behind-item_behind-requires-clause-z
id_behind-item_behind-requires-clause-z c =
    let few = z_within (surroundings c.items.own) (surroundings c.args.context.now) c.items.number c.items.invariant.1.0 c.args.count c.requires.count (omega arith) in
    omega (arith, few, c.requires.few, ap (λ (e : Extent). e.z) c.item_id.ensures)

pub items-preserved : goal.items-preserved
items-preserved c =
    let a = surroundings c.args.context.now in
    let own = surroundings c.items.own in
    let p = c.args.program.now in
    let m = contents c.items.memory in
    let n = c.items.number in
    let x = c.run_item.new.stopped in
    let now = contents c.run_item.new.memory in
    let is = c.items.invariant.1.0 in (
      one_ran a p c.args.count (contents c.args.memory.now) n c.items.stopped.items m (omega arith) c.items.invariant.0 x now
          (comes_well own a n is p _ m c.run_item.result _ _ c.run_item.new.broken
          (begun_anew (λ i k. ItemComes own p n (ready i k) m c.run_item.result (standing x) now c.run_item.new.broken) c.begin_anew.new.self.item c.begin_anew.new.self.left c.begin_anew.ensures.item c.begin_anew.ensures.left c.run_item.ensures.comes)
          c.if-not-run_item.false)
          c.keep_stopped.new.stopped.items c.in_ok-keep_stopped.ensures,
      (
        moved_at own a n is c.move_to.new.self c.id_behind-item_behind.result c.current_size.result c.item_id.result c.move_to.ensures c.current_size.ensures c.item_id.ensures
            (c.id_behind-item_behind.ensures n),
        λ few. left_rest c.run_item.result p.steps c.begin_anew.new.self.item.registers x.item.registers c.if-not-run_item.false c.run_item.ensures.rest (c.sets_few-few.ensures few)
            (subst (λ (i : Item). RestIsZero i.registers) (sym c.begin_anew.ensures.item) cleared_rest),
      ),
    )

pub returns-clause-ok : goal.returns-clause-ok
returns-clause-ok c =
    all_ran (surroundings c.args.context.now) c.args.program.now c.args.count (contents c.args.memory.now) c.items.number c.items.stopped.items
    (contents c.items.memory) (omega arith) c.items.invariant.0

pub begin_anew-requires : goal.begin_anew-requires
begin_anew-requires c = c.items.invariant.1.1
