-- The place that was found is its packet's alone.
use Rattle.std.proofs.Common.{subst, sym, ◌∙◌, ◌≡◌, ◌≤◌, ◌+◌, true, false, drop, map, ap}
use Rattle.packet_processor.proofs.LeftBehind.{set-long}
use Rattle.packet_processor.proofs.PlaceOrder.{ascends-map, barred-map, changed-behind, found-within}
use Rattle.packet_processor.specs.Queueing.{with_progress}
use Rattle.packet_processor.specs.declared.places.TheConstants.{PLACES}
use Rattle.packet_processor.specs.inner.Ascending.{AreBehind, Ascends, holds_barrier}
use Rattle.packet_processor.proofs.places.Places.advance.Goals as goal
use Rattle.packet_processor.proofs.places.Places.advance.Goals.{in-Some, in_default}

pub invariant_of-self : goal.invariant_of-self
invariant_of-self c =
    let left = c.self.inside.left in
    let xs = c.self.inside.taken.items in
    elim c.match-get_mut.branch [
      | in-Some w ↦
          let long = set-long xs (left + c.args.found.index) _ in
          subst (λ a. AreBehind a.left a.barred a.taken.items) (sym w.self-inside-is) (
            subst (λ n. left ≤ n) (sym long) c.self.invariant.0,
            subst (λ n. n ≤ PLACES) (sym long) c.self.invariant.1,
            subst Ascends (sym (changed-behind left xs c.args.found c.args.progress w.in-Some.place.now c.self.invariant.2 (rw c.self.view_is c.requires) w.in-Some.ensures.value))
                (ascends-map c.args.found.packet c.args.progress (drop left xs) c.self.invariant.2),
            c.self.invariant.3 ∙ sym (ap holds_barrier (changed-behind left xs c.args.found c.args.progress w.in-Some.place.now c.self.invariant.2 (rw c.self.view_is c.requires) w.in-Some.ensures.value)
                ∙ barred-map c.args.found.packet c.args.progress (drop left xs)),
          )
      | in_default w ↦ subst (λ a. AreBehind a.left a.barred a.taken.items) (sym w.self-inside-is) c.self.invariant
    ]

pub returns : goal.returns
returns c =
    let left = c.self.inside.left in
    let xs = c.self.inside.taken.items in
    elim c.match-get_mut.branch [
      | in-Some w ↦
          ap (λ a. drop a.left a.taken.items) w.self-inside-is
          ∙ changed-behind left xs c.args.found c.args.progress w.in-Some.place.now c.self.invariant.2 (rw c.self.view_is c.requires) w.in-Some.ensures.value
          ∙ ap (map (with_progress c.args.found.packet c.args.progress)) c.self.view_is
      | in_default w ↦ let lost : false ≡ true = w.in_default.ensures.variant.1 (found-within left xs c.args.found (rw c.self.view_is c.requires)) in absurd cc
    ]
