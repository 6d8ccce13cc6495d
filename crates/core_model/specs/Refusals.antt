-- Refusals: where a call is refused, and the number of each refusal (own).
use Rattle.std.specs.Prelude.{ℕ, Bool, Option, Some, None, if◌then◌else◌}
use Rattle.core_model.specs.declared.refusal.Refusal.{Refusal}
use Rattle.core_model.specs.declared.refusal.Refusal.TheVariants as refusal

-- the rest where the test holds, else the refusal that stands before it (own)
abbrev pub refuse_unless : {R : Type 0} → Bool → R → R → R
refuse_unless test why rest = if test then rest else why

-- the refusal where there is nothing, else the rest for what there is (own)
abbrev pub for_some : {X R : Type 0} → Option X → R → (X → R) → R
for_some None why rest = why
for_some (Some x) why rest = rest x

-- a refusal's number; 14 and 15 are those of the world around the core
abbrev pub number_of : Refusal → ℕ
number_of refusal.OutOfMemory = 0
number_of refusal.UnknownClient = 1
number_of refusal.UnknownQueue = 2
number_of (refusal.Denied right) = 3
number_of (refusal.Busy queue packet) = 4
number_of refusal.NotAllowed = 5
number_of (refusal.OutOfStep next) = 6
number_of refusal.QueueDown = 7
number_of refusal.NotInFlight = 8
number_of refusal.NotFinished = 9
number_of refusal.AuditFull = 10
number_of refusal.BadSize = 11
number_of refusal.TooMany = 12
number_of refusal.UnknownObject = 13
number_of refusal.OtherObjects = 16
