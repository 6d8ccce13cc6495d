-- Objects: their kinds and numbers.
use Rattle.std.specs.Prelude.{ℕ, Bool, true, false, ◌&&◌, ◌==◌}
use Rattle.policy.specs.declared.object.Kind.{Kind}
use Rattle.policy.specs.declared.object.Kind.TheVariants as kind
use Rattle.policy.specs.declared.object.Object.{Object}
use Rattle.policy.specs.declared.object.Object.TheVariants.{Agent, Region, Signal, Kernel}

-- the kind of an object
abbrev pub kind_of : Object → Kind
kind_of (Agent h) = kind.Agent
kind_of (Region h) = kind.Region
kind_of (Signal h) = kind.Signal
kind_of (Kernel h) = kind.Kernel

-- the number of an object, from 1 for each kind
abbrev pub number_of : Object → ℕ
number_of (Agent h) = h.0
number_of (Region h) = h.0
number_of (Signal h) = h.0
number_of (Kernel h) = h.0

-- the two kinds are the same
abbrev pub same_kind : Kind → Kind → Bool
same_kind kind.Agent kind.Agent = true
same_kind kind.Region kind.Region = true
same_kind kind.Signal kind.Signal = true
same_kind kind.Kernel kind.Kernel = true
same_kind _ _ = false

-- the two objects are the same: of one kind, with one number
abbrev pub same_object : Object → Object → Bool
same_object a b = same_kind (kind_of a) (kind_of b) && (number_of a == number_of b)

-- the object of a kind with a number
abbrev pub object_of : Kind → ℕ → Object
object_of kind.Agent n = Agent (record { 0 = n })
object_of kind.Region n = Region (record { 0 = n })
object_of kind.Signal n = Signal (record { 0 = n })
object_of kind.Kernel n = Kernel (record { 0 = n })
