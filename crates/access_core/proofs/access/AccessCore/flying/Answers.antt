-- The packet is found among those of its queue.
use Rattle.std.proofs.Common.{◌∙◌, ap, find, refl}
use Rattle.core_model.specs.Flight.{flight}
use Rattle.core_model.specs.History.{beginning}
use Rattle.access_core.proofs.Terms.{is_place_of, place_of}
use Rattle.access_core.proofs.WorkLemmas.{find-placed}
use Rattle.access_core.proofs.access.AccessCore.flying.Goals as goal

pub returns : goal.returns
returns c =
    let h = c.args.self.now.history in
    c.place_in.ensures
    ∙ ap (find (is_place_of c.args.packet)) c.packets_of.ensures
    ∙ find-placed (place_of (beginning h) h.entries c.args.queue) c.args.queue.0 c.args.packet.0 (flight (beginning h) h.entries) (λ f. refl)
