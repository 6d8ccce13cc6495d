-- What the commands come to (own).
use Rattle.std.specs.Prelude.{ℕ, ◌≡◌, ◌⊎◌, List, [], ◌∷◌, ◌++◌, codes, length, Result, Ok, Err, ⊤}
use Rattle.std.specs.Fmt.{decimal}
use Rattle.policy.specs.Format.{Declares, HasFault, IsRefused}
use Rattle.policy.specs.Policy.{Declared}
use Rattle.policy.specs.declared.row.RightsRow.{RightsRow}
use Rattle.policy.specs.declared.version.Version.{Version}
use Rattle.policy.specs.declared.version.Version.TheVariants.{First, Second}
use Rattle.policy.specs.declared.fault.ReadPolicyError.{ReadPolicyError}
use Rattle.policy.specs.declared.fault.ReadPolicyError.TheVariants as reading
use Rattle.access_core.specs.declared.access.OpenFault.{OpenFault}
use Rattle.script.specs.declared.fault.ScriptFault.{ScriptFault}
use Rattle.script.specs.declared.fault.ScriptFault.TheVariants as why
use Rattle.script.specs.declared.fault.RunFault.TheVariants.{Script, Watcher}
use Rattle.script.specs.Runs.{Law, as_text, by_line, law}
use Rattle.script.specs.Scripts.{Ending, HasCause, RunsScript}
use Rattle.script.specs.Watchers.{strict}
use Rattle.world.specs.Starting.{Begins}
use Rattle.world.specs.States.{Joined}
use Rattle.commands.specs.declared.failure.Failure.{Failure}
use Rattle.commands.specs.declared.check.Setup.{Setup}
use Rattle.commands.specs.declared.failure.Failure.TheVariants.{OutOfMemory, Policy, Kernel, KernelCount, NoEntry, Capacity, Line, Read, Write}
use Rattle.commands.specs.declared.status.Status.{Status}
use Rattle.commands.specs.declared.failure.Stop.{Stop}
use Rattle.commands.specs.declared.failure.Stop.TheVariants.{Quiet, Named}
use Rattle.commands.specs.declared.run.Opened.{Opened}
use Rattle.commands.specs.declared.run.Unopened.{Unopened}
use Rattle.commands.specs.declared.status.Status.TheVariants.{Done, Refused}
use Rattle.commands.specs.Failures.{IsBegun, IsWritten, NamesFailure, Stream, failure_of_opening, failure_of_reading, failure_of_script}
use Rattle.commands.specs.Further.{ReadsEach}
use Rattle.commands.specs.Kernels.{AreLaunchable, IsFirstRefused, IsWantedAt}

-- what the reading of a policy and the check of its kernels come to: the policy, all of whose kernels pass, with what packets may
-- launch by them; its first fault; or that of its first kernel with one. A kernel without its entry has no fault here. Memory may be
-- wanted for the reading, or for a kernel of the policy that was read
abbrev pub JudgesPolicy : List ℕ → Result Setup Failure → Type 0
JudgesPolicy text (Ok setup) = Declares text setup.policy × AreLaunchable setup.policy.kernels setup.kernels.items
JudgesPolicy text (Err OutOfMemory) = IsRefused text reading.OutOfMemory ⊎ ((policy : Declared) × Declares text policy × IsWantedAt policy.kernels)
JudgesPolicy text (Err (Policy fault)) = HasFault text fault
JudgesPolicy text (Err (Kernel fault)) = (policy : Declared) × Declares text policy × IsFirstRefused policy.kernels fault
JudgesPolicy text (Err KernelCount) = ⊥
JudgesPolicy text (Err (NoEntry kernel)) = ⊥
JudgesPolicy text (Err Capacity) = ⊥
JudgesPolicy text (Err (Line number)) = ⊥
JudgesPolicy text (Err Read) = ⊥
JudgesPolicy text (Err Write) = ⊥

-- the policy itself, where its kernels are let pass, and else the failure
abbrev pub PassesPolicy : Declared → Result Setup Failure → Type 0
PassesPolicy policy (Ok setup) = (setup.policy ≡ policy) × AreLaunchable policy.kernels setup.kernels.items
PassesPolicy policy (Err OutOfMemory) = IsWantedAt policy.kernels
PassesPolicy policy (Err (Kernel fault)) = IsFirstRefused policy.kernels fault
PassesPolicy policy (Err (Policy fault)) = ⊥
PassesPolicy policy (Err KernelCount) = ⊥
PassesPolicy policy (Err (NoEntry kernel)) = ⊥
PassesPolicy policy (Err Capacity) = ⊥
PassesPolicy policy (Err (Line number)) = ⊥
PassesPolicy policy (Err Read) = ⊥
PassesPolicy policy (Err Write) = ⊥

-- how what was asked ended: all is done, or a failure is named
abbrev pub TellsEnd : Result ⊤ ScriptFault → Stream → Stream → Status → Type 0
TellsEnd (Ok done) before after status = (after ≡ before) × (status ≡ Done)
TellsEnd (Err fault) before after status = NamesFailure (failure_of_script fault) before after status

-- ---- `check`

-- a line with the name of an array and how many rows it has
abbrev pub text_of_count : List ℕ → ℕ → List ℕ
text_of_count name count = name ++ codes " " ++ decimal count ++ 10 ∷ []

-- a line for the deny rows, which the second version alone has
abbrev pub text_of_denies : Version → List RightsRow → List ℕ
text_of_denies First denies = []
text_of_denies Second denies = text_of_count (codes "denies") (length denies)

-- a line for each array, and `ok`
abbrev pub text_of_counts : Declared → List ℕ
text_of_counts policy =
    text_of_count (codes "clients") (length policy.clients) ++ text_of_count (codes "agents") (length policy.agents)
    ++ text_of_count (codes "regions") (length policy.regions) ++ text_of_count (codes "signals") (length policy.signals)
    ++ text_of_count (codes "kernels") (length policy.kernels) ++ text_of_count (codes "allows") (length policy.rows.allows)
    ++ text_of_denies policy.version policy.rows.denies ++ codes "ok\n"

-- how the writing of a text ended: it is written and nothing else; or memory was wanted for it, and nothing is written; or the writer
-- failed behind a beginning of it
abbrev pub WritesText : List ℕ → Result ⊤ ScriptFault → Stream → Stream → Type 0
WritesText text (Ok done) before after = IsWritten text before after
WritesText text (Err why.OutOfMemory) before after = after ≡ before
WritesText text (Err why.Write) before after = IsBegun text before after
WritesText text (Err why.Read) before after = ⊥
WritesText text (Err (why.BadLine number)) before after = ⊥

-- the counts are written, or it is named why they aren't
abbrev pub TellsCounts : Declared → (out counted err named : Stream) → Status → Type 0
TellsCounts policy out counted err named status =
    (ended : Result ⊤ ScriptFault) × WritesText (text_of_counts policy) ended out counted × TellsEnd ended err named status

-- the counts of a good policy are told, or the failure of another
abbrev pub TellsVerdict : Result Setup Failure → (out counted err named : Stream) → Status → Type 0
TellsVerdict (Ok setup) out counted err named status = TellsCounts setup.policy out counted err named status
TellsVerdict (Err failure) out counted err named status = (counted ≡ out) × NamesFailure failure err named status

-- a policy is judged, and its counts or its failure told: what is known of the writers before and after
abbrev pub ChecksPolicy : List ℕ → (out counted err named : Stream) → Status → Type 0
ChecksPolicy text out counted err named status =
    (verdict : Result Setup Failure) × JudgesPolicy text verdict × TellsVerdict verdict out counted err named status

-- ---- the policies of a run

-- what keeps the first policy from a run
abbrev pub of_first : Failure → Unopened
of_first failure = record { failure = failure; place = 0 }

-- the further policies behind a world: they are read, or one of them isn't
abbrev pub OpensBehind : Joined → Result (List Declared) ReadPolicyError → Result Opened Unopened → Type 0
OpensBehind world (Ok later) result = result ≡ Ok (record { world = world; later = later })
OpensBehind world (Err why) result = (place : ℕ) × (result ≡ Err (record { failure = failure_of_reading why; place = place }))

-- where a world was opened, the texts of the further policies are read in order
abbrev pub OpensWorld : Result Joined OpenFault → List (List ℕ) → Result Opened Unopened → Type 0
OpensWorld (Ok world) further result = (read : Result (List Declared) ReadPolicyError) × ReadsEach further read × OpensBehind world read result
OpensWorld (Err fault) further result = result ≡ Err (of_first (failure_of_opening fault))

-- where the policy is good, a world is opened under it, with what packets may launch and so many places in its audit
abbrev pub OpensVerdict : Result Setup Failure → List (List ℕ) → ℕ → Result Opened Unopened → Type 0
OpensVerdict (Ok setup) further places result =
    (opened : Result Joined OpenFault) × Begins setup.policy setup.kernels.items places opened × OpensWorld opened further result
OpensVerdict (Err failure) further places result = result ≡ Err (of_first failure)

-- a policy is judged, a world opened under it, and further policies are read; else the first failure is told
abbrev pub OpensPolicies : List ℕ → List (List ℕ) → ℕ → Result Opened Unopened → Type 0
OpensPolicies text further places result = (verdict : Result Setup Failure) × JudgesPolicy text verdict × OpensVerdict verdict further places result

-- ---- `run`

-- what is known of a run's reader and writers: of the script, of the replies and of the faults
pub record Streams : Type 0 where
  pub script : Stream
  pub replies : Stream
  pub faults : Stream

abbrev pub streams : Stream → Stream → Stream → Streams
streams script replies faults = record { script = script; replies = replies; faults = faults }

-- who serves the lines of a run, by its further policies
abbrev pub Serving : Type 1
Serving = List Declared → Law Joined

-- how a command ends whose run a watcher ended
abbrev pub EndsBy : Stop → Stream → Stream → Status → Type 0
EndsBy (Quiet ending) before after status = (after ≡ before) × (status ≡ ending)
EndsBy (Named failure) before after status = NamesFailure failure before after status

-- how a run ended: all is done, a failure is named, or whoever watches ended it, who may say how the command ends then
abbrev pub TellsRun : {F : Type 0} → (Stop → Type 0) → Ending F → Stream → Stream → Status → Type 0
TellsRun stops (Ok done) before after status = (after ≡ before) × (status ≡ Done)
TellsRun stops (Err (Script fault)) before after status = NamesFailure (failure_of_script fault) before after status
TellsRun stops (Err (Watcher fault)) before after status = (stop : Stop) × stops stop × EndsBy stop before after status

-- a script runs over a world, once: what is left of it, and its replies; and each fault has its cause
unfoldable pub RunsOver : {F : Type 0} → Law Joined → Joined → Joined → (script left replies replied : Stream) → Ending F → Type 0
RunsOver law old new script left replies replied ended =
    RunsScript law old new replies.bytes replied.bytes script.bytes left.bytes ended
    × HasCause script.failed left.failed replies.failed replied.failed ended

-- a script runs over a world that is newly open, with these further policies
abbrev pub RunsIn : (F : Type 0) → Serving → (Stop → Type 0) → Opened → (before after : Streams) → Status → Type 0
RunsIn F law stops opened before after status =
    (new : Joined) × (ended : Ending F) × RunsOver (law opened.later) opened.world new before.script after.script before.replies after.replies ended
    × TellsRun stops ended before.faults after.faults status

-- the script runs over what was opened; else nothing is read and no reply written, and it is named why
abbrev pub RunsOpened : (F : Type 0) → Serving → (Stop → Type 0) → Result Opened Unopened → (before after : Streams) → Status → Type 0
RunsOpened F law stops (Ok opened) before after status = RunsIn F law stops opened before after status
RunsOpened F law stops (Err why) before after status =
    (after.script ≡ before.script) × (after.replies ≡ before.replies) × NamesFailure why.failure before.faults after.faults status

-- a world is opened over policies, and the script runs, or the first failure is named: what is known of the reader and the writers
-- before and after; `F` has the faults of whoever watches
abbrev pub RunsPolicies : (F : Type 0) → Serving → (Stop → Type 0) → List ℕ → List (List ℕ) → ℕ → (before after : Streams) → Status → Type 0
RunsPolicies F law stops text further places before after status =
    (opened : Result Opened Unopened) × OpensPolicies text further places opened × RunsOpened F law stops opened before after status

-- a run that nobody watches is ended by nobody
abbrev pub no_stop : Stop → Type 0
no_stop stop = ⊥

-- a run that ends as a line isn't done ends as refused, and nothing is told
abbrev pub refused_quietly : Stop → Type 0
refused_quietly stop = stop ≡ Quiet Refused

-- a strict run
abbrev pub strictly : Serving
strictly later = law (by_line as_text) strict later
