-- What a policy declares, by the numbers that C gives (own).
use Rattle.std.specs.Prelude.{ℕ, List, [], ◌∷◌, length, slice_get, Option}
use Rattle.policy.specs.Names.{Name}
use Rattle.policy.specs.Policy.{Declared, names_of, rules_of}
use Rattle.policy.specs.Rules.{count}
use Rattle.policy.specs.declared.object.Kind.TheVariants.{Agent, Region, Signal, Kernel}
use Rattle.hobbydresser_c.specs.declared.broker.Broker.{Broker}
use Rattle.hobbydresser_c.specs.declared.names.Subject.{Subject}
use Rattle.hobbydresser_c.specs.declared.names.Subject.TheVariants.{Object, Client}
use Rattle.hobbydresser_c.specs.Calls.{history_of}

-- what names are of, by its number
abbrev pub subjects : List Subject
subjects = Object Agent ∷ Object Region ∷ Object Signal ∷ Object Kernel ∷ Client ∷ []

abbrev pub subject_of_number : ℕ → Option Subject
subject_of_number number = slice_get subjects number

-- how many there are
abbrev pub count_in : Declared → Subject → ℕ
count_in policy (Object kind) = count (rules_of policy) kind
count_in policy Client = length policy.clients

-- their names, in order
abbrev pub names_in : Declared → Subject → List Name
names_in policy (Object kind) = names_of policy kind
names_in policy Client = policy.clients

-- the policy that a broker was opened with
abbrev pub policy_of : Broker → Declared
policy_of broker = (history_of broker).origin.policy
