-- The names of rights, as policies, scripts and audits write them.
use Rattle.std.specs.Prelude.{ℕ, List, codes}
use Rattle.policy.specs.declared.rights.Right.{Right}
use Rattle.policy.specs.declared.rights.Right.TheVariants.{Use, Read, Write, Wait, Change, Launch}

-- the name of a right (own)
abbrev pub name_of_right : Right → List ℕ
name_of_right Use = codes "USE"
name_of_right Read = codes "READ"
name_of_right Write = codes "WRITE"
name_of_right Wait = codes "WAIT"
name_of_right Change = codes "CHANGE"
name_of_right Launch = codes "LAUNCH"
