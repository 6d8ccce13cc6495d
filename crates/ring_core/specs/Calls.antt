-- What the calls on a ring are, as lists of steps: which accesses, in which order, and what each read
-- (own; over PSA, User Mode Queuing).
use Rattle.std.specs.Prelude.{ℕ, List, [], ◌∷◌, ◌++◌, map, slice_index}
use Rattle.ring_core.specs.declared.access.Access.{Access}
use Rattle.ring_core.specs.declared.access.Access.TheVariants.{LoadReadIndex, StoreBody, StoreHeader, LoadHeader, LoadBody, ClearHeader, RaiseReadIndex}
use Rattle.ring_core.specs.declared.access.Made.{Made}
use Rattle.ring_core.specs.Parts.{seen_by}
pub use Rattle.ring_core.specs.Tickets.{has_room}

-- the places of a packet's body words
abbrev pub body_places : List ℕ
body_places = 1 ∷ 2 ∷ 3 ∷ 4 ∷ 5 ∷ 6 ∷ 7 ∷ []

-- storing a packet under a ticket: the seven body words, and the header last, which publishes it
abbrev pub store_steps : ℕ → List ℕ → List Access
store_steps id words =
    map (λ place. StoreBody (record { 0 = id }) place (slice_index words place)) body_places
    ++ StoreHeader (record { 0 = id }) (slice_index words 0) ∷ []

-- publishing a packet: a look for room, and, where that read a read index with room, the stores
abbrev pub publish_steps : ℕ → List ℕ → List Access
publish_steps id words = LoadReadIndex (record { 0 = id }) ∷ store_steps id words

-- showing a packet: its header, and, where that has a type other than INVALID, its seven body words
abbrev pub show_steps : List Access
show_steps = LoadHeader ∷ map LoadBody body_places

-- retiring a packet: its header is cleared, and then the read index raised
abbrev pub retire_steps : List Access
retire_steps = ClearHeader ∷ RaiseReadIndex ∷ []

-- an access with what it read, if it found this word
abbrev pub made_of : Access → ℕ → Made
made_of access found = record { access = access; seen = seen_by access found }

-- the stores of a packet were made; a store reads nothing
abbrev pub packet_stored : ℕ → List ℕ → List Made
packet_stored id words = map (λ access. made_of access 0) (store_steps id words)

-- a packet of these words was published, and its look for room read this read index
abbrev pub publication : ℕ → ℕ → List ℕ → List Made
publication id seen words = map (λ access. made_of access seen) (publish_steps id words)

-- the place of the word that a load reads, among the words of a packet
abbrev pub place_read : Access → ℕ
place_read (LoadBody place) = place
place_read _ = 0

-- a packet was shown, and these were its words
abbrev pub showing : List ℕ → List Made
showing words = map (λ access. made_of access (slice_index words (place_read access))) show_steps

-- a packet was retired, and the read index before it was this
abbrev pub retiring : ℕ → List Made
retiring index = map (λ access. made_of access index) retire_steps
