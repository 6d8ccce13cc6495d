-- What is said of an entry in words (own).
use Rattle.std.specs.Prelude.{ℕ, ◌-◌, ◌==◌, Bool, true, List, [], ◌∷◌, ◌++◌, flat_map, length, codes, decimal, slice_index_or, false, if◌then◌else◌}
use Rattle.std.specs.Fmt.{signed_decimal}
use Rattle.aql_packet.specs.declared.ids.ClientId.{ClientId}
use Rattle.core_model.specs.declared.outcome.Satisfied.{Satisfied}
use Rattle.core_model.specs.declared.entry.Effect.{Effect}
use Rattle.core_model.specs.declared.entry.Effect.TheVariants as effect
use Rattle.core_model.specs.Limits.{fill_number, copy_number, add64_number}
use Rattle.policy.specs.declared.object.Object.{Object}
use Rattle.policy.specs.declared.object.Object.TheVariants as object
use Rattle.policy.specs.declared.rights.Right.{Right}
use Rattle.policy.specs.declared.rights.Rights.{Rights}
use Rattle.policy.specs.Rights.{has, all_rights}
use Rattle.policy.specs.RightNames.{name_of_right}
use Rattle.policy.specs.KindNames.{name_of_kind}
use Rattle.policy.specs.Object.{kind_of}
use Rattle.policy.specs.Policy.{Declared}
use Rattle.regions.specs.Memory.{region_of}
use Rattle.queue_error.specs.declared.error.QueueError.{QueueError}
use Rattle.words.specs.Names.{name_of_client, name_of_object}
use Rattle.words.specs.Errors.{text_of_broken}
use Rattle.picture.specs.declared.element.Work.{Work}
use Rattle.picture.specs.declared.element.Work.TheVariants as work
use Rattle.picture.specs.declared.element.Sign.{Sign}
use Rattle.picture.specs.declared.element.Sign.TheVariants as sign
use Rattle.picture.specs.declared.element.Element.{Element}

-- a right behind a blank, if the set has it
abbrev pub right_in : Rights → Right → List ℕ
right_in rights right = if has rights right then codes " " ++ name_of_right right else []

-- `CLIENT KIND NAME RIGHT RIGHT`
abbrev pub words_of_rights : Declared → ClientId → Object → Rights → List ℕ
words_of_rights policy client object rights =
    name_of_client policy client ++ codes " " ++ name_of_kind (kind_of object) ++ codes " " ++ name_of_object policy object
    ++ flat_map (right_in rights) all_rights

-- the name of an agent's function
abbrev pub words_of_function : ℕ → List ℕ
words_of_function function =
    if function == fill_number then codes "FILL"
    else if function == copy_number then codes "COPY"
    else if function == add64_number then codes "ADD64"
    else codes "agent"

-- what a packet is
abbrev pub words_of_work : Declared → Work → List ℕ
words_of_work policy (work.Kernel kernel) = name_of_object policy (object.Kernel kernel)
words_of_work policy (work.Agent function) = words_of_function function
words_of_work policy work.BarrierAnd = codes "barrier-AND"
words_of_work policy work.BarrierOr = codes "barrier-OR"

-- a position behind a blank, if it was newly seen
abbrev pub position_in : Satisfied → ℕ → List ℕ
position_in seen position = if slice_index_or seen.0 (position - 1) false then codes " " ++ decimal position else []

-- the positions from 1 that were newly seen
abbrev pub words_of_seen : Satisfied → List ℕ
words_of_seen seen = flat_map (position_in seen) (1 ∷ 2 ∷ 3 ∷ 4 ∷ 5 ∷ [])

-- the rule that a packet broke, and where
abbrev pub words_of_error : QueueError → List ℕ
words_of_error error = decimal error.packet.0 ++ codes " " ++ text_of_broken error

-- what is said of an entry
abbrev pub words_of : Declared → Sign → List ℕ
words_of policy (sign.Grant client object rights) = codes "grant " ++ words_of_rights policy client object rights
words_of policy (sign.Revocation client object rights) = codes "revoke " ++ words_of_rights policy client object rights
words_of policy (sign.Lane queue client agent) =
    codes "queue " ++ decimal queue.0 ++ codes " " ++ name_of_client policy client ++ codes " " ++ name_of_object policy (object.Agent agent)
words_of policy sign.Stop = codes "stop"
words_of policy sign.Close = codes "close"
words_of policy (sign.Bar packet work ending) = decimal packet.0 ++ codes " " ++ words_of_work policy work
words_of policy (sign.Denial error) = words_of_error error
words_of policy (sign.Group packet group) = decimal packet.0 ++ codes " group " ++ decimal group
words_of policy (sign.Fault error) = words_of_error error
words_of policy (sign.Failure error) = words_of_error error
words_of policy (sign.Look packet seen) = decimal packet.0 ++ codes " seen" ++ words_of_seen seen
words_of policy (sign.Completion packet) = decimal packet.0 ++ codes " completed"
words_of policy (sign.Write client) = codes "write " ++ name_of_client policy client
words_of policy (sign.Change client) = codes "signal " ++ name_of_client policy client
words_of policy (sign.Reload allows denies) = codes "reload " ++ decimal allows ++ codes " allow " ++ decimal denies ++ codes " deny"
words_of policy sign.Nothing = []

-- what is said of a packet's bar where there is no room for more: its id
abbrev pub brief_of : Sign → List ℕ
brief_of (sign.Bar packet work ending) = decimal packet.0
brief_of _ = []

-- ---- under the pointer

-- what stands before a sign's words, where they begin with a packet's id
abbrev pub lead_of : Sign → List ℕ
lead_of (sign.Denial error) = codes "denied packet "
lead_of (sign.Fault error) = codes "faulted packet "
lead_of (sign.Failure error) = codes "failed packet "
lead_of (sign.Bar packet work ending) = codes "packet "
lead_of (sign.Group packet group) = codes "packet "
lead_of (sign.Look packet seen) = codes "packet "
lead_of (sign.Completion packet) = codes "packet "
lead_of _ = []

-- the queue in whose lane something stands
abbrev pub words_of_lane : ℕ → List ℕ
words_of_lane lane = if lane == 0 then [] else codes "queue " ++ decimal lane ++ codes " "

-- whether a sign's words tell its queue
abbrev pub has_queue : Sign → Bool
has_queue (sign.Lane queue client agent) = true
has_queue _ = false

-- the queue in whose lane an element stands, where its words don't tell it
abbrev pub words_of_queue : Element → List ℕ
words_of_queue e = if has_queue e.sign then [] else words_of_lane e.spot.lane

-- a change, behind a semicolon: how many bytes of which region were written, a signal's name with both values, or the packet that was
-- released
abbrev pub words_of_effect : Declared → Effect → List ℕ
words_of_effect policy (effect.Write address bytes) =
    codes "; " ++ decimal (length bytes) ++ codes " bytes of " ++ name_of_object policy (object.Region (record { 0 = region_of address.0 }))
words_of_effect policy (effect.Signal signal old new) =
    codes "; signal " ++ name_of_object policy (object.Signal signal) ++ codes " " ++ signed_decimal old ++ codes " to " ++ signed_decimal new
words_of_effect policy (effect.Release queue packet) = codes "; releases packet " ++ decimal packet.0

-- what is said under the pointer of an element whose entry made these changes
abbrev pub told_of : Declared → Element → List Effect → List ℕ
told_of policy e effects = words_of_queue e ++ lead_of e.sign ++ words_of policy e.sign ++ flat_map (words_of_effect policy) effects
