-- Sets of rights: which right is in a set, and the sets that contracts speak of.
use Rattle.std.specs.Prelude.{ℕ, Bool, not, ◌||◌, ◌==◌, List, [], ◌∷◌, sum_by, if◌then◌else◌}
use Rattle.std.specs.List.{list_all}
use Rattle.std.specs.Int.RustNames.{bit_and}
use Rattle.policy.specs.declared.rights.Right.{Right}
use Rattle.policy.specs.declared.rights.Right.TheVariants.{Use, Read, Write, Wait, Change, Launch}
use Rattle.policy.specs.declared.rights.Rights.{Rights}

-- the bit of a right (own)
abbrev pub bit_of : Right → ℕ
bit_of Use = 1
bit_of Read = 2
bit_of Write = 4
bit_of Wait = 8
bit_of Change = 16
bit_of Launch = 32

-- the set of one right
abbrev pub set_of : Right → Rights
set_of right = record { 0 = bit_of right }

-- the right is in the set
abbrev pub has : Rights → Right → Bool
has rights right = bit_and rights.0 (bit_of right) == bit_of right

-- the six rights, in the order in which they are listed
abbrev pub all_rights : List Right
all_rights = Use ∷ Read ∷ Write ∷ Wait ∷ Change ∷ Launch ∷ []

-- each right of the set passes the test
abbrev pub each_right : Rights → (Right → Bool) → Bool
each_right rights test = list_all (λ right. not (has rights right) || test right) all_rights

-- the set of just the rights that pass the test
abbrev pub rights_that : (Right → Bool) → Rights
rights_that test = record { 0 = sum_by (λ right. if test right then bit_of right else 0) all_rights }

-- the right is one of those of which it is said so
abbrev pub by_right : (a b c d e f : Bool) → Right → Bool
by_right a b c d e f Use = a
by_right a b c d e f Read = b
by_right a b c d e f Write = c
by_right a b c d e f Wait = d
by_right a b c d e f Change = e
by_right a b c d e f Launch = f
