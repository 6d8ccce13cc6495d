-- What the calls on a ring machine do, as lists of steps: those that one seat makes in turn, and what each read
-- (own; over PSA, User Mode Queuing).
use Rattle.std.specs.Prelude.{◌≡◌, ℕ, Bool, true, false, List, [], ◌∷◌, length, slice_index, Option, Some, None, Result, Ok, Err, if◌then◌else◌}
use Rattle.ring_core.specs.declared.access.Access.{Access}
use Rattle.ring_core.specs.declared.access.Access.TheVariants.{Reserve, LoadReadIndex, LoadHeader, ClearHeader}
use Rattle.ring_core.specs.declared.access.Made.{Made}
use Rattle.ring_core.specs.declared.access.Seen.TheVariants.{Read}
use Rattle.ring_core.specs.declared.access.Step.{Step}
use Rattle.ring_core.specs.declared.state.Look.{Look}
use Rattle.ring_core.specs.declared.state.Look.TheVariants.{Published, Busy}
use Rattle.ring_core.specs.declared.state.StepFault.{StepFault}
use Rattle.ring_core.specs.declared.state.StepFault.TheVariants.{OutOfMemory, NotAStep}
use Rattle.ring_core.specs.Words.{is_invalid}
use Rattle.ring_core.specs.Machine.{Machine, Makes, is_allowed, made}
use Rattle.ring_core.specs.Calls.{has_room, made_of, publication, showing, retiring}

-- the step of a seat that makes an access
abbrev pub step_by : ℕ → Access → Step
step_by seat access = record { seat = seat; access = access }

-- a seat made these accesses in turn: each was allowed and read what it says, and together they lead here
abbrev pub MadeInTurn : Machine → ℕ → List Made → Machine → Type 0
MadeInTurn machine seat [] last = last ≡ machine
MadeInTurn machine seat (one ∷ more) last =
    Makes machine (step_by seat one.access) one.seen (made machine (step_by seat one.access))
    × MadeInTurn (made machine (step_by seat one.access)) seat more last

-- a seat may not make the first access of a call, and nothing has changed
abbrev pub Refuses : Machine → ℕ → Access → StepFault → Machine → Type 0
Refuses old seat access fault new = (fault ≡ NotAStep) × (is_allowed old (step_by seat access) ≡ false) × (new ≡ old)

-- a reservation: one step, which read the new ticket, unless memory was wanted for it
abbrev pub Reserves : Machine → ℕ → Result ℕ StepFault → Machine → Type 0
Reserves old seat (Ok id) new = Makes old (step_by seat Reserve) (Read id) new
Reserves old seat (Err OutOfMemory) new = (is_allowed old (step_by seat Reserve) ≡ true) × (new ≡ old)
Reserves old seat (Err NotAStep) new = Refuses old seat Reserve NotAStep new

-- a look for room that saw this read index, and, if it saw room, the stores
abbrev pub stored_if : Bool → ℕ → ℕ → List ℕ → List Made
stored_if room id seen words =
    if room then publication id seen words else made_of (LoadReadIndex (record { 0 = id })) seen ∷ []

-- publishing: a look for room, and, where the read index that it saw shows room, the stores
abbrev pub publishing : ℕ → ℕ → ℕ → List ℕ → List Made
publishing size id seen words = stored_if (has_room size id seen) id seen words

-- what a look that saw this read index comes to, if it saw room or not
abbrev pub look_if : Bool → ℕ → Look
look_if room seen = if room then Published else Busy seen

abbrev pub Publishes : Machine → ℕ → ℕ → List ℕ → Result Look StepFault → Machine → Type 0
Publishes old seat id words (Ok look) new =
    (seen : ℕ) × (look ≡ look_if (has_room old.size id seen) seen) × MadeInTurn old seat (publishing old.size id seen words) new
Publishes old seat id words (Err fault) new = Refuses old seat (LoadReadIndex (record { 0 = id })) fault new

-- collecting: a look at the header, and, where its type is another than INVALID, at the body
abbrev pub collecting : List ℕ → List Made
collecting words = if is_invalid (slice_index words 0) then made_of LoadHeader (slice_index words 0) ∷ [] else showing words

-- the packet among words that were found: none where the header's type is INVALID
abbrev pub packet_among : List ℕ → Option (List ℕ)
packet_among words = if is_invalid (slice_index words 0) then None else Some words

abbrev pub Collects : Machine → Result (Option (List ℕ)) StepFault → Machine → Type 0
Collects old (Ok packet) new =
    (words : List ℕ) × (length words ≡ 8) × (packet ≡ packet_among words) × MadeInTurn old 0 (collecting words) new
Collects old (Err fault) new = Refuses old 0 LoadHeader fault new

-- retiring: the header is cleared, and the read index raised
abbrev pub Retires : Machine → Result ℕ StepFault → Machine → Type 0
Retires old (Ok index) new = MadeInTurn old 0 (retiring index) new
Retires old (Err fault) new = Refuses old 0 ClearHeader fault new
