-- Those with which the audit began, behind its entries.
use Rattle.std.proofs.Common.{◌≡◌, List, ap, fold, map, ◌∙◌}
use Rattle.core_model.specs.declared.entry.Entry.{Entry}
use Rattle.core_model.specs.declared.origin.Origin.{Origin}
use Rattle.core_model.specs.declared.origin.PacketOrigin.{PacketOrigin}
use Rattle.core_model.specs.Flight.{flight_after}
use Rattle.core_model.specs.History.{History}
use Rattle.readable.proofs.Flights.{flight_told}
use Rattle.readable.proofs.flight.all_flight.Goals as goal

pub returns : goal.returns
returns c =
    let entries : c.audit.result.now ≡ c.args.world.now.core.entries = c.audit.ensures.entries ∙ ap (λ (h : History). h.entries) c.core-core.ensures in
    let packets : c.as_slice.result.now ≡ c.args.world.now.core.origin.packets =
    c.as_slice.ensures.items ∙ ap (λ (o : Origin). o.packets) (c.start.ensures ∙ ap (λ (h : History). h.origin) c.core-core.ensures) in
    flight_told c.args.world.now _ _ (c.in_ok-flight.ensures ∙ ap (λ (ps : List PacketOrigin). map (λ p. p.flying) ps) packets)
    (c.in_ok-follow_each.ensures ∙ ap (λ (es : List Entry). fold flight_after c.in_ok-flight.flight.items es) entries)
