-- The arrays of a policy file.
use Rattle.std.specs.Prelude.{ℕ, List, [], ◌∷◌, codes}
use Rattle.policy.specs.declared.fault.Section.{Section}
use Rattle.policy.specs.declared.fault.Section.TheVariants as section

-- the key of an array
abbrev pub name_of_section : Section → List ℕ
name_of_section section.Client = codes "client"
name_of_section section.Agent = codes "agent"
name_of_section section.Region = codes "region"
name_of_section section.Signal = codes "signal"
name_of_section section.Kernel = codes "kernel"
name_of_section section.Allow = codes "allow"
name_of_section section.Deny = codes "deny"

-- the arrays, in the order in which they are read
abbrev pub all_sections : List Section
all_sections = section.Client ∷ section.Agent ∷ section.Region ∷ section.Signal ∷ section.Kernel ∷ section.Allow ∷ section.Deny ∷ []
