-- The rights of a set, as a word: how it is read, and how it is written (own).
use Rattle.std.specs.Prelude.{ℕ, List, [], ◌∷◌, map, filter, codes, Option, Some, None, option_and_then, bytes_eq, bit_or, if◌then◌else◌}
use Rattle.policy.specs.declared.rights.Right.{Right}
use Rattle.policy.specs.declared.rights.Right.TheVariants.{Use, Read, Write, Wait, Change, Launch}
use Rattle.policy.specs.declared.rights.Rights.{Rights}
use Rattle.policy.specs.Rights.{bit_of, has, all_rights}
use Rattle.policy.specs.RightNames.{name_of_right}
use Rattle.words.specs.Lines.{Word}
use Rattle.words.specs.Items.{items}
use Rattle.script.specs.Lists.{commas_or_dash}

-- the right of a name
abbrev pub right_of : Word → Option Right
right_of word =
    if bytes_eq word (codes "USE") then Some Use
    else if bytes_eq word (codes "READ") then Some Read
    else if bytes_eq word (codes "WRITE") then Some Write
    else if bytes_eq word (codes "WAIT") then Some Wait
    else if bytes_eq word (codes "CHANGE") then Some Change
    else if bytes_eq word (codes "LAUNCH") then Some Launch
    else None

-- a set with a further right
abbrev pub with_right : Rights → Right → Rights
with_right rights right = record { 0 = bit_or rights.0 (bit_of right) }

-- a set with the rights of further names
unfoldable pub rights_with : Rights → List Word → Option Rights
rights_with rights [] = Some rights
rights_with rights (name ∷ names) = option_and_then (λ right. rights_with (with_right rights right) names) (right_of name)

-- no right
abbrev pub no_rights : Rights
no_rights = record { 0 = 0 }

-- `R,R` in any order, repeats counting once, or `-` for no right
abbrev pub rights_word : Word → Option Rights
rights_word word = if bytes_eq word (codes "-") then Some no_rights else rights_with no_rights (items word)

-- the names of the rights of a set, in the order in which rights are listed
abbrev pub names_of_rights : Rights → List (List ℕ)
names_of_rights rights = map name_of_right (filter (has rights) all_rights)

-- `R,R`, or `-` for no right
abbrev pub text_of_rights : Rights → List ℕ
text_of_rights rights = commas_or_dash (names_of_rights rights)
