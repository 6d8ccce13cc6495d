-- What a replay says of a whole history.
use Rattle.std.specs.Prelude.{ℕ, ◌≡◌, ◌<◌, All, List, ◌∷◌, ◌++◌, length, map, None, Some, Result, Ok, Err}
use Rattle.kernel_check.specs.Programs.{Program}
use Rattle.policy.specs.Policy.{Declared}
use Rattle.core_model.specs.declared.entry.Entry.{Entry}
use Rattle.core_model.specs.History.{opening_state}
use Rattle.core_model.specs.Legal.{IsWhole}
use Rattle.core_model.specs.Limits.{most_before}
use Rattle.core_model.specs.Owed.{enters, owed}
use Rattle.core_model.specs.States.{state_after}
use Rattle.access_core.specs.Opening.{open_fault, program_of}
use Rattle.access_core.specs.declared.access.OpenFault.{OpenFault}
use Rattle.access_core.specs.declared.access.OpenFault.TheVariants as fault
use Rattle.access_core.specs.declared.kernel.Kernel.{Kernel}
use Rattle.replay.specs.declared.stop.Stop.{Stop}
use Rattle.replay.specs.declared.stop.Stop.TheVariants as stop
use Rattle.replay.specs.declared.verdict.Verdict.{Verdict}
use Rattle.replay.specs.declared.verdict.Verdict.TheVariants as verdict
use Rattle.replay.specs.Replays.{IsKnown, IsUnknown, Replayed, Takes, Tells, audit_places, state}

-- a replay has taken these entries, from its opening on: they are a whole legal history of the policy and its kernels, each reload of them
-- is of the rows of a further policy, and the replay is in the state behind them (own)
pub record IsReplayed (policy : Declared) (kernels : List Program) (further : List Declared) (entries : List Entry) (replay : Replayed) : Type 0 where
  pub whole : IsWhole (opening_state policy kernels) entries
  pub known : All (λ entry. IsKnown policy further entry.event) entries
  pub state_is : state replay ≡ state_after (opening_state policy kernels) entries
  pub policy_is : replay.history.origin.policy ≡ policy
  pub capacity_is : replay.history.capacity ≡ audit_places
  pub further_is : replay.further ≡ further

-- why an entry wasn't taken behind these: memory was wanted; more than 2^62 entries came before it; no further policy has its rows; or it
-- isn't what its event was owed, and what was is told (own)
abbrev pub StopsAt : Declared → List Program → List Declared → List Entry → Entry → Stop → Replayed → Type 0
StopsAt policy kernels further before entry stop.OutOfMemory replay = Unit {0}
StopsAt policy kernels further before entry stop.NoRoom replay = most_before < length before
StopsAt policy kernels further before entry stop.UnknownRows replay = IsUnknown policy further entry.event
StopsAt policy kernels further before entry (stop.NotOwed told) replay =
    (owed (opening_state policy kernels) before entry.event ≡ enters entry.outcome entry.effects → ⊥)
    × Tells told entry.event (owed (opening_state policy kernels) before entry.event) replay

-- the first entry that wasn't taken stands behind so many, which were; the replay is the one that took those, as it stopped (own)
pub record IsStopped (policy : Declared) (kernels : List Program) (further : List Declared) (entries : List Entry) (place : ℕ) (why : Stop) (replay : Replayed) : Type 0 where
  pub before : List Entry
  pub entry : Entry
  pub rest : List Entry
  pub entries_are : entries ≡ before ++ entry ∷ rest
  pub place_is : place ≡ length before
  pub whole : IsWhole (opening_state policy kernels) before
  pub known : All (λ entry. IsKnown policy further entry.event) before
  pub stops : StopsAt policy kernels further before entry why replay
  pub standing : Replayed
  pub taken : IsReplayed policy kernels further before standing
  pub takes : Takes standing entry (Err why) replay

-- what a replay of entries comes to (own)
abbrev pub Judges : Declared → List Kernel → List Declared → List Entry → Result Verdict OpenFault → Type 0
Judges policy kernels further entries (Ok (verdict.Legal replay)) = IsReplayed policy (map program_of kernels) further entries replay
Judges policy kernels further entries (Ok (verdict.Stopped place why replay)) = IsStopped policy (map program_of kernels) further entries place why replay
Judges policy kernels further entries (Err fault.OutOfMemory) = open_fault policy kernels audit_places ≡ None
Judges policy kernels further entries (Err why) = open_fault policy kernels audit_places ≡ Some why
