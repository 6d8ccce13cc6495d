-- The packets before it stay, and those behind it come one place forward.
use Rattle.std.proofs.Common.{subst, sym, ◌∙◌, ap, drop, length, arith}
use Rattle.packet_processor.proofs.PlaceOrder.{ascends-without, barred-less, fewer-later, found-within, out-later}
use Rattle.packet_processor.specs.Queueing.{without_packet}
use Rattle.packet_processor.specs.inner.Ascending.{Ascends}
use Rattle.packet_processor.proofs.places.Places.release_behind.Goals as goal

pub overflow_add-self-inside : goal.overflow_add-self-inside
overflow_add-self-inside c =
    let within = found-within c.self.inside.left c.self.inside.taken.items c.args.found (rw c.self.view_is c.requires.found) in
    let few = c.self.invariant.1 in
    omega (arith, within, few)

pub remove-requires : goal.remove-requires
remove-requires c = (omega arith, found-within c.self.inside.left c.self.inside.taken.items c.args.found (rw c.self.view_is c.requires.found))

pub invariant_of-self : goal.invariant_of-self
invariant_of-self c =
    let left = c.self.inside.left in
    let xs = c.self.inside.taken.items in
    let within = found-within left xs c.args.found (rw c.self.view_is c.requires.found) in
    let fewer = c.remove.ensures.len in (
      omega (arith, within, fewer),
      omega (arith, fewer, c.self.invariant.1),
      subst Ascends (sym (ap (drop left) c.remove.ensures.items ∙ out-later left xs c.args.found c.self.invariant.2 (rw c.self.view_is c.requires.found)))
          (ascends-without c.args.found.packet (drop left xs) c.self.invariant.2),
      barred-less c.self.inside.barred _ c.args.found.packet (drop left xs) _ c.self.invariant.3
          (ap (drop left) c.remove.ensures.items ∙ out-later left xs c.args.found c.self.invariant.2 (rw c.self.view_is c.requires.found)) c.stays_barred-self-inside.ensures,
    )

pub returns-clause-without : goal.returns-clause-without
returns-clause-without c =
    ap (drop c.self.inside.left) c.remove.ensures.items
    ∙ out-later c.self.inside.left c.self.inside.taken.items c.args.found c.self.invariant.2 (rw c.self.view_is c.requires.found)
    ∙ ap (without_packet c.args.found.packet) c.self.view_is

pub returns-clause-fewer : goal.returns-clause-fewer
returns-clause-fewer c =
    let within = found-within c.self.inside.left c.self.inside.taken.items c.args.found (rw c.self.view_is c.requires.found) in
    fewer-later c.self.inside.left c.self.inside.taken.items _ (omega (arith, within)) c.remove.ensures.len ∙ ap length c.self.view_is
