-- What a packet in flight was given at its launch, as a list of rights, and which regions the list names.
use Rattle.std.specs.Prelude.{◌≡◌, ◌&&◌, Bool, false, List, slice_get, Some}
use Rattle.std.specs.List.{list_any}
use Rattle.aql_packet.specs.declared.ids.RegionHandle.{RegionHandle}
use Rattle.policy.specs.declared.object.Object.{Object}
use Rattle.policy.specs.declared.object.Object.TheVariants as object
use Rattle.policy.specs.declared.rights.Right.{Right}
use Rattle.policy.specs.declared.rights.Rights.{Rights}
use Rattle.policy.specs.Object.{same_object}
use Rattle.policy.specs.Rights.{has}

-- whether a list has a right on an object
abbrev pub is_listed : List (Object × Rights) → Object → Right → Bool
is_listed rights on right = list_any (λ named. same_object on named.0 && has named.1 right) rights

-- a region that isn't marked, by its number, has no right in the list
abbrev pub LeavesOut : List Bool → List (Object × Rights) → Type 0
LeavesOut marks rights = (region : RegionHandle) (right : Right) → slice_get marks region.0 ≡ Some false → is_listed rights (object.Region region) right ≡ false

-- and none on an object that was marked since
abbrev pub MarksToo : List Bool → List Bool → Object → Type 0
MarksToo old new on = (region : RegionHandle) → slice_get new region.0 ≡ Some false
    → (slice_get old region.0 ≡ Some false) × (same_object (object.Region region) on ≡ false)
