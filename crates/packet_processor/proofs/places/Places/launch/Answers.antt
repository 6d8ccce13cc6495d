-- The id is above all others.
use Rattle.std.proofs.Common.{◌≡◌, ◌∙◌, ◌+◌, ◌++◌, ◌∷◌, [], ap, subst, sym, All, ◌<◌, List, drop, length, arith}
use Rattle.std.specs.Prelude.{◌||◌}
use Rattle.std.proofs.lemmas.List.{drop-append-le, length-append}
use Rattle.packet_processor.proofs.PlaceOrder.{ascends-append, barred-more}
use Rattle.packet_processor.specs.Queueing.{as_launched}
use Rattle.packet_processor.specs.declared.places.Place.{Place}
use Rattle.packet_processor.specs.inner.Ascending.{Ascends, holds_barrier}
use Rattle.packet_processor.proofs.places.Places.launch.Goals as goal

pub invariant_of-self : goal.invariant_of-self
invariant_of-self c =
    let xs = c.make_room-self-inside.new.taken.items in
    let left = c.make_room-self-inside.result in
    let room = c.make_room-self-inside.ensures in
    let behind : drop left c.push.new.self.items ≡ drop c.self.inside.left c.self.inside.taken.items ++ as_launched c.args.id c.args.packet ∷ [] =
    ap (drop left) c.push.ensures.items ∙ drop-append-le left xs _ room.within ∙ ap (λ ys. ys ++ as_launched c.args.id c.args.packet ∷ []) room.same in
    let long : length c.push.new.self.items ≡ length xs + 1 = ap length c.push.ensures.items ∙ length-append xs _ in (
      omega (arith, long, room.within),
      omega (arith, long, room.room),
      subst Ascends (sym behind) (ascends-append (drop c.self.inside.left c.self.inside.taken.items) _ c.self.invariant.2
          (subst (λ (ys : List Place). All (λ (p : Place). p.id.0 < c.args.id.0) ys) (sym c.self.view_is) c.requires.above)),
      ap (λ b. b || c.is_barrier.result) c.self.invariant.3 ∙ ap (λ b. holds_barrier (drop c.self.inside.left c.self.inside.taken.items) || b) c.is_barrier.ensures
          ∙ barred-more (drop c.self.inside.left c.self.inside.taken.items) _ ∙ sym (ap holds_barrier behind),
    )
