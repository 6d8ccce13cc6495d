-- Places in the order of their packets' ids (own).
use Rattle.std.specs.Prelude.{ℕ, ◌≡◌, ◌<◌, ◌≤◌, Bool, List, [], ◌∷◌, drop, length}
use Rattle.std.specs.List.{list_any}
use Rattle.core_model.specs.LaunchRules.{is_barrier}
use Rattle.packet_processor.specs.declared.places.TheConstants.{PLACES}
use Rattle.packet_processor.specs.declared.places.Place.{Place}

-- the packets of these places have ids above this one
abbrev pub Above : ℕ → List Place → Type 0
Above id [] = Unit {0}
Above id (first ∷ later) = (id < first.id.0) × Above id later

-- each packet has an id above those of the places before it
abbrev pub Ascends : List Place → Type 0
Ascends [] = Unit {0}
Ascends (first ∷ later) = Above first.id.0 later × Ascends later

-- whether one of these places is a barrier packet's
abbrev pub holds_barrier : List Place → Bool
holds_barrier places = list_any (λ place. is_barrier place.packet) places

-- so many places in front were left behind, the packets in those behind them ascend, and this tells whether one of them is a barrier packet
abbrev pub AreBehind : ℕ → Bool → List Place → Type 0
AreBehind left barred places =
    (left ≤ length places) × (length places ≤ PLACES) × Ascends (drop left places) × (barred ≡ holds_barrier (drop left places))
