-- The names of kinds of objects, as policies, scripts and audits write them.
use Rattle.std.specs.Prelude.{ℕ, List, codes}
use Rattle.policy.specs.declared.object.Kind.{Kind}
use Rattle.policy.specs.declared.object.Kind.TheVariants.{Agent, Region, Signal, Kernel}

-- the name of a kind (own)
abbrev pub name_of_kind : Kind → List ℕ
name_of_kind Agent = codes "agent"
name_of_kind Region = codes "region"
name_of_kind Signal = codes "signal"
name_of_kind Kernel = codes "kernel"
