-- The place that was found is its packet's alone.
use Rattle.std.proofs.Common.{subst, sym, ◌∙◌, ap, drop, length, arith}
use Rattle.packet_processor.proofs.PlaceOrder.{ascends-without, barred-less, fewer-first, found-within, out-first}
use Rattle.packet_processor.specs.Queueing.{without_packet}
use Rattle.packet_processor.specs.inner.Ascending.{Ascends}
use Rattle.packet_processor.proofs.places.Places.release.Goals as goal

pub invariant_of-self : goal.invariant_of-self
invariant_of-self c =
    let left = c.self.inside.left in
    let xs = c.self.inside.taken.items in
    let within = found-within left xs c.args.found (rw c.self.view_is c.requires) in (
      omega (arith, within, c.if-found-eq0.true),
      c.self.invariant.1,
      subst Ascends (sym (out-first left xs c.args.found c.self.invariant.2 (rw c.self.view_is c.requires) c.if-found-eq0.true))
          (ascends-without c.args.found.packet (drop left xs) c.self.invariant.2),
      barred-less c.self.inside.barred _ c.args.found.packet (drop left xs) _ c.self.invariant.3
          (out-first left xs c.args.found c.self.invariant.2 (rw c.self.view_is c.requires) c.if-found-eq0.true) c.stays_barred-self-inside.ensures,
    )

pub returns-then-found-eq0-clause-without : goal.returns-then-found-eq0-clause-without
returns-then-found-eq0-clause-without c =
    out-first c.self.inside.left c.self.inside.taken.items c.args.found c.self.invariant.2 (rw c.self.view_is c.requires) c.if-found-eq0.true
    ∙ ap (without_packet c.args.found.packet) c.self.view_is

pub returns-then-found-eq0-clause-fewer : goal.returns-then-found-eq0-clause-fewer
returns-then-found-eq0-clause-fewer c =
    let within = found-within c.self.inside.left c.self.inside.taken.items c.args.found (rw c.self.view_is c.requires) in
    fewer-first c.self.inside.left c.self.inside.taken.items (omega (arith, within)) ∙ ap length c.self.view_is
