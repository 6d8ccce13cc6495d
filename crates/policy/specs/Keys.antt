-- The keys of a policy file: their names, and which a row of each array has (own).
use Rattle.std.specs.Prelude.{ℕ, List, [], ◌∷◌, codes}
use Rattle.policy.specs.declared.fault.Section.{Section}
use Rattle.policy.specs.declared.fault.Section.TheVariants as section
use Rattle.policy.specs.declared.key.Key.{Key}
use Rattle.policy.specs.declared.key.Key.TheVariants as key

-- the name of a key
abbrev pub name_of_key : Key → List ℕ
name_of_key key.Version = codes "version"
name_of_key key.Name = codes "name"
name_of_key key.Takes = codes "takes"
name_of_key key.Length = codes "length"
name_of_key key.Initial = codes "initial"
name_of_key key.Entry = codes "entry"
name_of_key key.Text = codes "text"
name_of_key key.Client = codes "client"
name_of_key key.Kind = codes "kind"
name_of_key key.Object = codes "object"
name_of_key key.Rights = codes "rights"

-- the keys of a row of each array, in the order in which they are read
abbrev pub client_keys : List Key
client_keys = key.Name ∷ []

abbrev pub agent_keys : List Key
agent_keys = key.Name ∷ key.Takes ∷ []

abbrev pub region_keys : List Key
region_keys = key.Name ∷ key.Length ∷ []

abbrev pub signal_keys : List Key
signal_keys = key.Name ∷ key.Initial ∷ []

abbrev pub kernel_keys : List Key
kernel_keys = key.Name ∷ key.Entry ∷ key.Text ∷ []

abbrev pub rights_keys : List Key
rights_keys = key.Client ∷ key.Kind ∷ key.Object ∷ key.Rights ∷ []

abbrev pub keys_of : Section → List Key
keys_of section.Client = client_keys
keys_of section.Agent = agent_keys
keys_of section.Region = region_keys
keys_of section.Signal = signal_keys
keys_of section.Kernel = kernel_keys
keys_of section.Allow = rights_keys
keys_of section.Deny = rights_keys
