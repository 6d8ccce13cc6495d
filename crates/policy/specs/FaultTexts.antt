-- How faults print, in bytes (own).
use Rattle.std.specs.Prelude.{ℕ, List, [], ◌++◌, codes, Option, Some, None}
use Rattle.std.specs.Fmt.{decimal}
use Rattle.policy.specs.declared.fault.PolicyCause.{PolicyCause}
use Rattle.policy.specs.declared.fault.PolicyCause.TheVariants.{NotToml, MissingKey, BadValue, UnknownName, DoubleName, TooMany}
use Rattle.policy.specs.declared.fault.PolicyFault.{PolicyFault}
use Rattle.policy.specs.declared.fault.Section.{Section}
use Rattle.policy.specs.SectionNames.{name_of_section}

-- a cause's number and its name
abbrev pub number_of_cause : PolicyCause → ℕ
number_of_cause NotToml = 1
number_of_cause MissingKey = 2
number_of_cause BadValue = 3
number_of_cause UnknownName = 4
number_of_cause DoubleName = 5
number_of_cause TooMany = 6

abbrev pub name_of_cause : PolicyCause → List ℕ
name_of_cause NotToml = codes "NotToml"
name_of_cause MissingKey = codes "MissingKey"
name_of_cause BadValue = codes "BadValue"
name_of_cause UnknownName = codes "UnknownName"
name_of_cause DoubleName = codes "DoubleName"
name_of_cause TooMany = codes "TooMany"

-- the place of a fault that has one: a blank, the array's key, a blank and the row
abbrev pub text_of_place : Option Section → ℕ → List ℕ
text_of_place None row = []
text_of_place (Some section) row = codes " " ++ name_of_section section ++ codes " " ++ decimal row

-- `N NAME`, and the place where there is one
abbrev pub text_of_fault : PolicyFault → List ℕ
text_of_fault fault =
    decimal (number_of_cause fault.cause) ++ codes " " ++ name_of_cause fault.cause ++ text_of_place fault.kind fault.row
