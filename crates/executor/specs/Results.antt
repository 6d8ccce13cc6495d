-- What a work-group comes to, as a function of what it is given (own).
use Rattle.std.specs.Prelude.{◌≡◌, ℕ, zero, suc, ◌+◌, ◌*◌, List, []}
use Rattle.executor.specs.Group.{Status, running, done, faulted, follow}
use Rattle.executor.specs.Items.{Surroundings}
use Rattle.executor.specs.Runs.{GroupInput, Fails, Finishes, begun, surroundings_of}
use Rattle.executor.specs.Told.{runs_of}
use Rattle.executor.specs.declared.fault.ItemFault.{ItemFault}
use Rattle.executor.specs.declared.fault.RunFault.{RunFault}
use Rattle.executor.specs.declared.fault.RunFault.TheVariants as fault
use Rattle.executor.specs.declared.written_range.WrittenRange.{WrittenRange}
use Rattle.kernel_check.specs.Programs.{Program}
use Rattle.executor.specs.Limits.{budget, most_group_items}

-- where a group stands after so many turns
abbrev pub after_turns : Surroundings → Program → ℕ → Status → Status
after_turns a p zero from = from
after_turns a p (suc n) from = after_turns a p n (follow a p from)

-- as many turns as a group can take: each of its 1,024 items executes 65,536 instructions at the most and takes one turn to
-- end, items meet at a barrier at most once for each instruction, and one turn finds that all have ended
unfoldable pub most_turns : ℕ
most_turns = 2 * (most_group_items * (budget + 1)) + 1

-- a status from which none follows: all items have ended, or one broke a rule
abbrev pub IsOver : Status → Type 0
IsOver (running items m) = ⊥
IsOver (done m) = Unit {0}
IsOver (faulted f) = Unit {0}

-- what a group comes to: it wrote the bytes of these runs, or an item broke a rule
pub data GroupResult : Type 0 where
  wrote : List WrittenRange → GroupResult
  broke_rule : ItemFault → GroupResult

-- what a group has come to where it stands
abbrev pub result_at : Status → GroupResult
result_at (running items m) = wrote []
result_at (done m) = wrote (runs_of m.written)
result_at (faulted f) = broke_rule f

-- what a group comes to: always the least of its items that neither ended nor waits takes a turn, until none can or one breaks a rule
unfoldable pub group_result : GroupInput → GroupResult
group_result i = result_at (after_turns (surroundings_of i) i.program most_turns (begun i))

-- the number of a refusal (own)
abbrev pub fault_number : RunFault → ℕ
fault_number fault.OutOfMemory = 0
fault_number (fault.Fault f) = 1

-- a group that is done has written the bytes of these runs, and comes to them
abbrev pub FinishesAs : GroupInput → List WrittenRange → Type 0
FinishesAs i runs = Finishes (surroundings_of i) i.program (begun i) runs × (group_result i ≡ wrote runs)

-- a group in which an item broke a rule, and that comes to it; without memory nothing is said
abbrev pub FailsAs : GroupInput → RunFault → Type 0
FailsAs i fault.OutOfMemory = Unit {0}
FailsAs i (fault.Fault f) =
    Fails (surroundings_of i) i.program (begun i) (fault.Fault f) × (group_result i ≡ broke_rule f)
