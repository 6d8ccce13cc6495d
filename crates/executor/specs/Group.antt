-- The meaning of a work-group: always the least of its items that neither ended nor waits at a barrier takes a turn
-- (own; PRM, Work-Group; Barrier Operations).
use Rattle.std.specs.Prelude.{◌≡◌, ℕ, zero, suc, ◌+◌, ◌-◌, ◌==◌, Bool, false, if◌then◌else◌, List, [], ◌∷◌, map, replicate, slice_index, Option, Some, None}
use Rattle.std.specs.List.{list_all}
use Rattle.executor.specs.Items.{Contents, Surroundings, fresh}
use Rattle.executor.specs.Locations.{id_of}
use Rattle.executor.specs.Meaning.{Act, goes_on, arrives, ends, broke, turn}
use Rattle.executor.specs.declared.fault.ItemFault.{ItemFault}
use Rattle.executor.specs.declared.item.Item.{Item}
use Rattle.executor.specs.declared.rounds.Waiter.{Waiter}
use Rattle.kernel_check.specs.Programs.{Program}
use Rattle.queue_error.specs.declared.rule.Rule.TheVariants.{A6}

-- an item that can take a turn, or one that waits at the barrier before its next step, each with the number of
-- instructions that it executed; or one that has ended
pub data Standing : Type 0 where
  ready : Item → ℕ → Standing
  waiting : Item → ℕ → Standing
  ended : Standing

-- what comes of a group's turn: its items and memory; none of them can take one; or an item broke a rule
pub data Advance : Type 0 where
  stepped : List Standing → Contents → Advance
  settled : Advance
  failed : ItemFault → Advance

-- what surrounds the item of a number
abbrev pub context_of_item : Surroundings → ℕ → Surroundings
context_of_item a n = record a { location = record a.location { item = id_of a.location.current_size n } }

-- what an item's turn makes of it and those behind it
abbrev pub taken : ℕ → ℕ → ℕ → List Standing → Act → Advance
taken n line executed rest (goes_on i m) = stepped (ready i (executed + 1) ∷ rest) m
taken n line executed rest (arrives i m) = stepped (waiting i (executed + 1) ∷ rest) m
taken n line executed rest (ends m) = stepped (ended ∷ rest) m
taken n line executed rest (broke rule address) = failed (record { item = n; line = line; rule = rule; address = address })

-- what a turn of those behind an item makes of all
abbrev pub behind : Standing → Advance → Advance
behind s (stepped items m) = stepped (s ∷ items) m
behind s settled = settled
behind s (failed f) = failed f

-- the least item that neither ended nor waits takes a turn; the first of these is the item of number n
abbrev pub advance : Surroundings → Program → ℕ → List Standing → Contents → Advance
advance a p n [] m = settled
advance a p n (ended ∷ rest) m = behind ended (advance a p (n + 1) rest m)
advance a p n (waiting i executed ∷ rest) m = behind (waiting i executed) (advance a p (n + 1) rest m)
advance a p n (ready i executed ∷ rest) m =
    taken n (slice_index p.lines i.next) executed rest (turn (context_of_item a n) p.steps i executed m)

-- where a group stands
pub data Status : Type 0 where
  running : List Standing → Contents → Status
  done : Contents → Status
  faulted : ItemFault → Status

-- the least item that waits; the first of these is the item of number n
abbrev pub least_waiting : ℕ → List Standing → Option Waiter
least_waiting n [] = None
least_waiting n (ready i executed ∷ rest) = least_waiting (n + 1) rest
least_waiting n (waiting i executed ∷ rest) = Some (record { number = n; next = i.next })
least_waiting n (ended ∷ rest) = least_waiting (n + 1) rest

-- whether an item waits at the barrier before a step
abbrev pub waits_before : ℕ → Standing → Bool
waits_before next (ready i executed) = false
waits_before next (waiting i executed) = i.next == next
waits_before next ended = false

-- an item that waits no more
abbrev pub released : Standing → Standing
released (ready i executed) = ready i executed
released (waiting i executed) = ready i executed
released ended = ended

-- the fault of an item that waits at a barrier which not all reach: A6, on the barrier's line, by no access (own)
abbrev pub divergence : Program → Waiter → ItemFault
divergence p w = record { item = w.number; line = slice_index p.lines (w.next - 1); rule = A6; address = None }

-- where none of a group's items can take a turn: all have ended, and it is done; all wait at the same barrier, and go
-- on; else the least that waits breaks A6 (PRM, Barrier Operations; the rule is (own))
abbrev pub met : Program → List Standing → Contents → Option Waiter → Status
met p items m None = done m
met p items m (Some w) =
    if list_all (waits_before w.next) items then running (map released items) m
    else faulted (divergence p w)

abbrev pub followed : Program → List Standing → Contents → Advance → Status
followed p items m (stepped after now) = running after now
followed p items m settled = met p items m (least_waiting 0 items)
followed p items m (failed f) = faulted f

abbrev pub follow : Surroundings → Program → Status → Status
follow a p (running items m) = followed p items m (advance a p 0 items m)
follow a p (done m) = done m
follow a p (faulted f) = faulted f

-- so many turns lead from one to another
abbrev pub LeadsIn : Surroundings → Program → ℕ → Status → Status → Type 0
LeadsIn a p zero from to = from ≡ to
LeadsIn a p (suc n) from to = LeadsIn a p n (follow a p from) to

abbrev pub Leads : Surroundings → Program → Status → Status → Type 0
Leads a p from to = (n : ℕ) × LeadsIn a p n from to

-- a group of so many items as it begins, over what memory holds then: no item has taken a turn (own)
abbrev pub beginning : ℕ → Contents → Status
beginning count m = running (replicate count (ready fresh 0)) m
